use Rattle.std.proofs.Common.{◌-◌, ◌<◌, length, refl, subst, arith}
use Rattle.std.specs.Prelude.{Some}
use Rattle.wc_nestsolve.specs.Inner.Passes.{rank_of}
use Rattle.wc_nestsolve.proofs.ClassLemmas.{rank_less}
use Rattle.wc_nestsolve.proofs.classes.sizes.Goals as goal

pub count_one-requires : goal.count_one-requires
count_one-requires c =
    let within : c.loop-left.left - 1 < length c.args.nest.now.heads = omega (arith, c.loop-left.invariant.1, c.loop-left-test.true) in
    let less : rank_of (Some c.in-Some.parent) < rank_of (Some (c.loop-left.left - 1)) =
    subst (λ o. rank_of o < rank_of (Some (c.loop-left.left - 1))) c.in-Some.is
    (rank_less c.args.nest.now c.requires.solvable.parents _ (Some (c.loop-left.left - 1)) _ _ c.items.ensures refl within) in
    omega (arith, less, within, c.loop-left.invariant.0)
