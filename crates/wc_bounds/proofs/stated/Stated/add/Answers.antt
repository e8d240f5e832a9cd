use Rattle.std.proofs.Common.{ℕ, ◌≡◌, Some, get_or, refl, sym, ◌∙◌}
use Rattle.std.specs.List.{slice_get}
use Rattle.std.proofs.lemmas.Option.{slice_get-get_or}
use Rattle.wc_model.specs.declared.flow_facts.Fact.{Fact}
use Rattle.wc_bounds.proofs.StatedLemmas.{stated_loop, stated_other}
use Rattle.wc_bounds.proofs.stated.Stated.add.Goals as goal

pub returns-in_ok-push-in-None : goal.returns-in_ok-push-in-None
returns-in_ok-push-in-None c = λ was.
    let facts = c.args.facts.now in
    let fact : ℕ × Fact = get_or facts c.args.index c.index-facts-index.result in
    let at : slice_get facts c.args.index ≡ Some fact = slice_get-get_or facts c.args.index c.index-facts-index.result c.requires in
    stated_other facts c.args.index fact at c.args.self.now _ was (sym c.address.ensures ∙ c.in-None.is) refl c.in_ok-push-in-None.ensures.items

pub returns-in_ok-put-in-Some : goal.returns-in_ok-put-in-Some
returns-in_ok-put-in-Some c = λ was.
    let facts = c.args.facts.now in
    let fact : ℕ × Fact = get_or facts c.args.index c.index-facts-index.result in
    let at : slice_get facts c.args.index ≡ Some fact = slice_get-get_or facts c.args.index c.index-facts-index.result c.requires in
    stated_loop facts c.args.index fact at c.args.self.now c.put.new.self was c.in-Some.at (sym c.address.ensures ∙ c.in-Some.is) c.in_ok-put-in-Some.ensures
