use Rattle.std.proofs.Common.{◌≡◌, ℕ, ℤ, List, ◌*ℤ◌, neg_ℤ, pos, length, ap, inl, subst, rules, SFits, ◌∙◌, arith}
use Rattle.std.proofs.lemmas.Int.{to_z-of_z}
use mir.Syntax.{w128}
use mir.Val.{of_z, to_z}
use Rattle.wc_model.specs.Flow.Places.{is_listed}
use Rattle.wc_dual.specs.Inner.Blocks.{IsTurn}
use Rattle.wc_base.specs.Sums.{chosen}
use Rattle.wc_dual.specs.Inner.Lines.{IsWideBound}
use Rattle.wc_dual.proofs.PayLemmas.{some_listed, turn_neg}
use Rattle.wc_dual.proofs.passes.take_entries.Goals as goal

pub returns-in_default : goal.returns-in_default
returns-in_default c =
    let some : length c.args.row.now.entry ≡ 0 → ⊥ = λ none. absurd (omega (arith, none, ap (λ (ns : List ℕ). length ns) c.items-entries.ensures)) in
    let listed = some_listed c.args.row.now.entry some in
    inl (listed.0, listed.1, c.in_default.ensures)

pub returns : goal.returns
returns c =
    let amount_fits : SFits w128 c.in-Some.amount = search rules in
    let less_fits : SFits w128 c.negated-less.result = search rules in
    let passed : ℤ = to_z w128 (of_z w128 c.negated-less.result) in
    let less = to_z-of_z w128 c.negated-less.result less_fits ∙ c.negated-less.ensures ∙ ap neg_ℤ (to_z-of_z w128 c.in-Some.amount amount_fits ∙ c.in-Some.ensures.1) in
    turn_neg (IsWideBound c.args.row.now c.args.price.now) c.args.row.now.entry c.args.first passed (pos c.args.row.now.bound *ℤ c.args.price.now) c.args.sums.now c.put_places.new.sums c.put_places.result
    less
    (subst (λ ns. IsTurn c.args.first (λ i. chosen (is_listed i ns) passed) c.args.sums.now c.put_places.new.sums c.put_places.result) c.items-entries.ensures c.put_places.ensures)
