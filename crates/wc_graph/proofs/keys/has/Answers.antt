use Rattle.std.proofs.Common.{◌≡◌, ◌≤◌, ◌<◌, ◌/◌, None, Some, get_or, length, refl, sym, ap, subst, arith, ⊎_elim}
use Rattle.std.specs.List.{slice_get}
use Rattle.std.proofs.lemmas.Option.{slice_get-get_or}
use Rattle.wc_graph.specs.declared.keys.Branch.{Branch}
use Rattle.wc_graph.specs.Inner.Keys.{IsIn, here, below, after, child}
use Rattle.wc_graph.proofs.KeysLemmas.{in_cases, child_below}
use Rattle.wc_graph.proofs.keys.has.Goals as goal

pub bounds-branches-number : goal.bounds-branches-number
bounds-branches-number c = omega (arith, c.loop-at.invariant.inside, ap after c.in-Some.is)

pub returns-then-branch-key : goal.returns-then-branch-key
returns-then-branch-key c =
    let bs = c.args.branches.now in
    let b : Branch = get_or bs c.in-Some.number (record { key = 0; low = None; high = None }) in
    let less : c.in-Some.number < length bs = omega (arith, c.loop-at.invariant.inside, ap after c.in-Some.is) in
    let at : slice_get bs c.in-Some.number ≡ Some b = slice_get-get_or bs c.in-Some.number (record { key = 0; low = None; high = None }) less in
    (λ yes. c.loop-at.invariant.same.0 (subst (IsIn bs c.args.key c.loop-at.digits) (sym c.in-Some.is) (here c.in-Some.number b at c.if-branch-key.true)), λ is. refl)

pub loop-at-smaller : goal.loop-at-smaller
loop-at-smaller c =
    let bs = c.args.branches.now in
    let b : Branch = get_or bs c.in-Some.number (record { key = 0; low = None; high = None }) in
    let less : c.in-Some.number < length bs = omega (arith, c.loop-at.invariant.inside, ap after c.in-Some.is) in
    let at : slice_get bs c.in-Some.number ≡ Some b = slice_get-get_or bs c.in-Some.number (record { key = 0; low = None; high = None }) less in
    let lower : after (child b c.loop-at.digits) ≤ c.in-Some.number = child_below bs c.in-Some.number b c.loop-at.digits c.requires.are at in
    omega (arith, lower, ap after c.child-at.ensures, ap after c.in-Some.is)

pub loop-at-preserved : goal.loop-at-preserved
loop-at-preserved c =
    let bs = c.args.branches.now in
    let b : Branch = get_or bs c.in-Some.number (record { key = 0; low = None; high = None }) in
    let less : c.in-Some.number < length bs = omega (arith, c.loop-at.invariant.inside, ap after c.in-Some.is) in
    let at : slice_get bs c.in-Some.number ≡ Some b = slice_get-get_or bs c.in-Some.number (record { key = 0; low = None; high = None }) less in
    let lower : after (child b c.loop-at.digits) ≤ c.in-Some.number = child_below bs c.in-Some.number b c.loop-at.digits c.requires.are at in
    record {
      same = (
        λ part. c.loop-at.invariant.same.0 (subst (IsIn bs c.args.key c.loop-at.digits) (sym c.in-Some.is) (below c.in-Some.number b at (subst (IsIn bs c.args.key (c.loop-at.digits / 2)) c.child-at.ensures part))),
        λ whole. ⊎_elim
            (λ (same : b.key ≡ c.args.key). absurd (c.if-branch-key.false same))
            (λ (rest : IsIn bs c.args.key (c.loop-at.digits / 2) (child b c.loop-at.digits)). subst (IsIn bs c.args.key (c.loop-at.digits / 2)) (sym c.child-at.ensures) rest)
            (in_cases bs c.args.key c.in-Some.number b c.in-Some.is at (c.loop-at.invariant.same.1 whole)),
      );
      inside = omega (arith, lower, less, ap after c.child-at.ensures);
    }
