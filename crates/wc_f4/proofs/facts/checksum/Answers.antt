use Rattle.std.proofs.Common.{ℕ, List, refl, sym, ap, ◌∙◌}
use Rattle.wc_model.specs.declared.flow_facts.Fact.TheVariants.{Checksum}
use Rattle.wc_f4.specs.Places as place
use Rattle.wc_f4.specs.Places.{answer}
use Rattle.wc_f4.specs.Tokens.{number, quoted}
use Rattle.wc_f4.specs.Views.{left}
use Rattle.wc_f4.proofs.ParsingLemmas.{behind, by_turn, no_number, no_quoted, stopped}
use Rattle.wc_f4.proofs.facts.checksum.Goals as goal

pub returns-in_err-quoted-clause-read : goal.returns-in_err-quoted-clause-read
returns-in_err-quoted-clause-read c =
    λ names later facts.
    stopped names place.name quoted c.from_residual.result c.in_err-quoted.field-0.0 (left c.args.reader.now) (left c.quoted.new.self) (λ t other. no_quoted t _ other)
    c.from_residual.ensures.1 c.in_err-quoted.ensures later facts _

pub returns-in_err-value-clause-read : goal.returns-in_err-value-clause-read
returns-in_err-value-clause-read c =
    λ names later facts.
    behind c.from_residual-in_err-value.result _ _ _
    (by_turn names later place.name facts (left c.args.reader.now) (left c.quoted.new.self) (quoted c.in_ok-quoted.quoted.now) c.in_ok-quoted.ensures.0
    (place.go (place.value c.in_ok-quoted.quoted.now)) c.in_ok-quoted.ensures.1 refl)
    (stopped names (place.value c.in_ok-quoted.quoted.now) number c.from_residual-in_err-value.result c.in_err-value.field-0.0 (left c.quoted.new.self) (left c.number.new.self) (λ t other. no_number t _ other)
    c.from_residual-in_err-value.ensures.1 c.in_err-value.ensures later facts _)

pub returns-clause-read : goal.returns-clause-read
returns-clause-read c =
    λ names later facts.
    behind c.closed.result _ _ _
    (by_turn names later place.name facts (left c.args.reader.now) (left c.quoted.new.self) (quoted c.in_ok-quoted.quoted.now) c.in_ok-quoted.ensures.0
    (place.go (place.value c.in_ok-quoted.quoted.now)) c.in_ok-quoted.ensures.1 refl
    ∙ by_turn names later (place.value c.in_ok-quoted.quoted.now) facts (left c.quoted.new.self) (left c.number.new.self) (number c.in_ok-value.value) c.in_ok-value.ensures.0
    (place.go (place.behind (place.closing (Checksum c.in_ok-name.name c.in_ok-value.value)))) c.in_ok-value.ensures.1
    (ap (λ (s : List ℕ). place.go (place.behind (place.closing (Checksum s c.in_ok-value.value)))) (sym c.in_ok-name.ensures)))
    (c.closed.ensures.read names (place.behind (place.closing (Checksum c.in_ok-name.name c.in_ok-value.value))) (λ t. refl) later facts)
