use Rattle.std.proofs.Common.{rules, ◌≡◌, ◌^◌, ◌≤ℤ◌, ◌-ℤ◌, pos, neg_ℤ, slice_index, sym, ap, subst, ◌∙◌, SFits}
use Rattle.std.proofs.lemmas.Int.{to_z-of_z}
use mir.Syntax.{w128}
use Rattle.wc_nestsolve.specs.Inner.Raising.{AreRaisable}
use Rattle.wc_nestsolve.proofs.LoopLemmas.{head_at, head_high, head_low, raisable, raise_done, raise_high, raise_low, raise_none, worth_small}
use Rattle.wc_nestsolve.proofs.RaiseLemmas.{none_from}
use Rattle.wc_nestsolve.proofs.last.raise_loop.Goals as goal

pub less_round-from-requires-clause-low : goal.less_round-from-requires-clause-low
less_round-from-requires-clause-low c =
    let fits : SFits w128 c.in-Some.at_head = search rules in
    let head = head_at _ _ _ c.requires.ways _ _ _ c.requires.table _ _ c.requires.some.1 _ c.loop_at-own.ensures _ c.index.ensures ∙ c.in-Some.is in
    subst (λ z. neg_ℤ (pos (2 ^ 125)) ≤ℤ z) (sym (to_z-of_z w128 c.in-Some.at_head fits)) (head_low _ _ _ c.requires.ways _ _ _ c.requires.table _ _ c.requires.some.1 c.in-Some.at_head head)

pub less_round-from-requires-clause-high : goal.less_round-from-requires-clause-high
less_round-from-requires-clause-high c =
    let fits : SFits w128 c.in-Some.at_head = search rules in
    let head = head_at _ _ _ c.requires.ways _ _ _ c.requires.table _ _ c.requires.some.1 _ c.loop_at-own.ensures _ c.index.ensures ∙ c.in-Some.is in
    subst (λ z. z ≤ℤ pos (2 ^ 125)) (sym (to_z-of_z w128 c.in-Some.at_head fits)) (head_high _ _ _ c.requires.ways _ _ _ c.requires.table _ _ c.requires.some.1 c.in-Some.at_head head)

pub less_round-from-requires-clause-small : goal.less_round-from-requires-clause-small
less_round-from-requires-clause-small c = worth_small _ _ _ c.requires.ways _ _ _ c.requires.table

pub raise-requires-clause-class : goal.raise-requires-clause-class
raise-requires-clause-class c = subst (λ xs. AreRaisable xs c.args.best.now c.args.u.now.items) (sym c.class_at-class.ensures) (raisable _ _ _ c.requires.ways _ _ _ c.requires.table c.requires.some.0 _ c.requires.some.1)

pub raise-requires-clause-low : goal.raise-requires-clause-low
raise-requires-clause-low c =
    let fits : SFits w128 c.in-Some.at_head = search rules in
    let fits_from : SFits w128 c.less_round-from.result = search rules in
    let head = head_at _ _ _ c.requires.ways _ _ _ c.requires.table _ _ c.requires.some.1 _ c.loop_at-own.ensures _ c.index.ensures ∙ c.in-Some.is in
    let from : c.less_round-from.result ≡ c.in-Some.at_head -ℤ pos (slice_index c.args.v.now c.args.place) = c.less_round-from.ensures ∙ ap (λ z. z -ℤ pos (slice_index c.args.v.now c.args.place)) (to_z-of_z w128 c.in-Some.at_head fits) in
    subst (λ z. neg_ℤ (pos (2 ^ 120)) ≤ℤ z) (sym (to_z-of_z w128 c.less_round-from.result fits_from ∙ from))
    (raise_low _ _ _ c.requires.ways _ _ _ c.requires.table _ _ c.requires.some.1 c.in-Some.at_head head (worth_small _ _ _ c.requires.ways _ _ _ c.requires.table))

pub raise-requires-clause-high : goal.raise-requires-clause-high
raise-requires-clause-high c =
    let fits : SFits w128 c.in-Some.at_head = search rules in
    let fits_from : SFits w128 c.less_round-from.result = search rules in
    let head = head_at _ _ _ c.requires.ways _ _ _ c.requires.table _ _ c.requires.some.1 _ c.loop_at-own.ensures _ c.index.ensures ∙ c.in-Some.is in
    let from : c.less_round-from.result ≡ c.in-Some.at_head -ℤ pos (slice_index c.args.v.now c.args.place) = c.less_round-from.ensures ∙ ap (λ z. z -ℤ pos (slice_index c.args.v.now c.args.place)) (to_z-of_z w128 c.in-Some.at_head fits) in
    subst (λ z. z ≤ℤ pos (2 ^ 120)) (sym (to_z-of_z w128 c.less_round-from.result fits_from ∙ from)) (raise_high _ _ _ c.requires.ways _ _ _ c.requires.table _ _ c.requires.some.1 c.in-Some.at_head head)

pub returns-in-Some : goal.returns-in-Some
returns-in-Some c =
    let fits : SFits w128 c.in-Some.at_head = search rules in
    let fits_from : SFits w128 c.less_round-from.result = search rules in
    let from : c.less_round-from.result ≡ c.in-Some.at_head -ℤ pos (slice_index c.args.v.now c.args.place) = c.less_round-from.ensures ∙ ap (λ z. z -ℤ pos (slice_index c.args.v.now c.args.place)) (to_z-of_z w128 c.in-Some.at_head fits) in
    λ value old.
    raise_done _ _ _ c.requires.ways _ _ _ c.requires.table value _ old c.in-Some.at_head (head_at _ _ _ c.requires.ways _ _ _ c.requires.table _ _ old _ c.loop_at-own.ensures _ c.index.ensures ∙ c.in-Some.is) _ _ _ c.class_at-class.ensures
    (to_z-of_z w128 c.less_round-from.result fits_from ∙ from) c.raise.ensures

pub returns-in_default : goal.returns-in_default
returns-in_default c = λ value old.
    raise_none _ _ _ c.requires.ways _ _ _ c.requires.table value _ old (head_at _ _ _ c.requires.ways _ _ _ c.requires.table _ _ old _ c.loop_at-own.ensures _ c.index.ensures ∙ none_from c.index.result.now c.in_default.not-Some)
