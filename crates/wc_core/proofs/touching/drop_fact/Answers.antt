use Rattle.std.proofs.Common.{◌==◌, sym, ap, ◌∙◌}
use Rattle.std.specs.Prelude.{position}
use Rattle.wc_core.proofs.FirstLemmas.{position_first, position_none}
use Rattle.wc_core.proofs.touching.drop_fact.Goals as goal

pub returns-in-Some : goal.returns-in-Some
returns-in-Some c =
    let same = ap (position (λ f. f.0 == c.args.number)) (sym c.items.ensures) ∙ sym c.place_of.ensures ∙ c.in-Some.is in
    c.remove.ensures.rest ∙ (position_first (λ f. f.0 == c.args.number) c.args.facts.now c.in-Some.place c.remove.result same).removed

pub returns-in_default : goal.returns-in_default
returns-in_default c = sym (position_none (λ f. f.0 == c.args.number) c.args.facts.now (ap (position (λ f. f.0 == c.args.number)) (sym c.items.ensures) ∙ sym c.place_of.ensures ∙ c.in_default.is)).whole
