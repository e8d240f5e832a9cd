use Rattle.std.proofs.Common.{ℕ, List, [], refl, sym, ap, ◌∙◌}
use Rattle.wc_f4.specs.declared.tokens.Word.TheVariants as keyword
use Rattle.wc_f4.specs.Places as place
use Rattle.wc_f4.specs.Places.{answer}
use Rattle.wc_f4.specs.Tokens.{word}
use Rattle.wc_f4.specs.Views.{known, left}
use Rattle.wc_f4.proofs.ParsingLemmas.{behind, this_absent, this_read}
use Rattle.wc_f4.proofs.SameTokens.{other_this}
use Rattle.wc_f4.proofs.addresses.within.Goals as goal

pub returns-then-has_keyword-clause-read : goal.returns-then-has_keyword-clause-read
returns-then-has_keyword-clause-read c =
    λ owner later facts.
    behind c.addresses.result _ _ _
    (this_read (known c.args.names.now) later (place.behind (place.within owner)) facts (word keyword.In) (place.address (place.listed owner [])) (left c.args.reader.now) (left c.has_keyword.new.self) refl c.if-has_keyword.ensures)
    (c.addresses.ensures.read owner later facts)

pub returns-else-has_keyword-clause-read : goal.returns-else-has_keyword-clause-read
returns-else-has_keyword-clause-read c =
    λ owner later facts.
    this_absent (known c.args.names.now) later (place.behind (place.within owner)) (place.whole owner []) facts (word keyword.In) (left c.args.reader.now) (left c.has_keyword.new.self)
    (λ t other. other_this (word keyword.In) t _ _ other) c.if-has_keyword.ensures
    ∙ ap (λ (list : List ℕ). answer (known c.args.names.now) later (place.whole owner list) facts (left c.has_keyword.new.self)) (sym (c.new-else-has_keyword.ensures ∙ c.new.ensures.items))
