use Rattle.std.proofs.Common.{[], ◌∷◌, refl, ◌∙◌}
use Rattle.wc_f4.specs.Places as place
use Rattle.wc_f4.specs.Places.{answer}
use Rattle.wc_f4.specs.Views.{known, left}
use Rattle.wc_f4.proofs.ParsingLemmas.{at_end, not_at_end, passed_on}
use Rattle.wc_f4.proofs.reading.one_fact.Goals as goal

pub returns-then-is_at_end : goal.returns-then-is_at_end
returns-then-is_at_end c =
    c.in_ok-fact.ensures.read place.finish [] ∙ at_end (known c.fact.new.names) place.finish place.finish (c.in_ok-fact.fact ∷ []) (left c.fact.new.reader) refl c.if-is_at_end.ensures

pub returns-else-is_at_end : goal.returns-else-is_at_end
returns-else-is_at_end c =
    c.in_ok-fact.ensures.read place.finish [] ∙ not_at_end (known c.fact.new.names) place.finish (c.in_ok-fact.fact ∷ []) (left c.fact.new.reader) c.place.result c.if-is_at_end.ensures c.place.ensures

pub returns-in_err-fact : goal.returns-in_err-fact
returns-in_err-fact c = passed_on c.from_residual.result _ _ _ _ c.from_residual.ensures.1 (c.in_err-fact.ensures.read place.finish [])
