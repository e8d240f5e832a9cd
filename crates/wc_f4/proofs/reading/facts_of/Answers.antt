use Rattle.std.proofs.Common.{[], sym, ap, ◌∙◌}
use Rattle.wc_f4.specs.Grammar.{Names}
use Rattle.wc_f4.specs.Places as place
use Rattle.wc_f4.specs.Places.{answer}
use Rattle.wc_f4.specs.Reading.{names_of}
use Rattle.wc_f4.specs.Tokens.{placed_tokens}
use Rattle.wc_f4.specs.Views.{known}
use Rattle.wc_f4.proofs.ParsingLemmas.{behind}
use Rattle.wc_f4.proofs.reading.facts_of.Goals as goal

pub returns : goal.returns
returns c =
    behind c.all_facts.result _ _ _
    (ap (λ (names : Names). answer names place.start place.start [] (placed_tokens c.args.text.now)) (ap names_of (sym c.new-names.ensures))
    ∙ ap (answer (known c.new-names.result) place.start place.start []) (sym c.new-reader.ensures))
    c.all_facts.ensures
