use Rattle.std.proofs.Common.{ℕ, ◌≡◌, ◌<◌, ◌≤◌, ⊎_elim, Some, length, get_or, sym, ap, subst, ◌∙◌, arith}
use Rattle.std.specs.List.{Contains, slice_get}
use Rattle.std.proofs.lemmas.Bool.{cases_lt}
use Rattle.std.proofs.lemmas.Option.{same_Some, slice_get-get_or, slice_get_within}
use Rattle.wc_model.proofs.Places.{contains_from_get, get_from_contains}
use Rattle.wc_nest.specs.Inner.Marking.{IsMarked}
use Rattle.wc_nest.specs.Inner.Searches.{IsTarget}
use Rattle.wc_nest.proofs.ClassLemmas.{rested_stack, rested_bounds, rested_classes}
use Rattle.wc_nest.proofs.search.Search.classes.Goals as goal

pub loop-node-preserved : goal.loop-node-preserved
loop-node-preserved c =
    let visit = c.in_ok-visit.ensures in
    let i = c.loop-node.node-index in
    let members = c.args.members.now in
    let node : ℕ = get_or members i 0 in
    let at : slice_get members i ≡ Some node = slice_get-get_or members i 0 c.loop-node-test.true in
    let old = c.loop-node.invariant in
    record {
      rested = visit.rested;
      count = visit.sized ∙ old.count;
      marked = λ j p less at_j. ⊎_elim
          (λ (before : j < i). visit.kept p (old.marked j p before at_j))
          (λ (there : i ≤ j). let same : i ≡ j = omega arith in subst (λ (x : ℕ). IsMarked c.visit.new.self.marks.items x) (same_Some node p (sym at ∙ ap (slice_get members) same ∙ at_j)) visit.marked)
          (cases_lt j i);
      only = λ p is. ⊎_elim
          (λ before. old.only p before)
          (λ new. ⊎_elim
          (λ (same : p ≡ node). subst (λ (x : ℕ). Contains members x) (sym same) (contains_from_get members i node at))
          (λ (target : IsTarget c.args.ways.now p). subst (λ (x : ℕ). Contains members x) target.2 (c.requires.ends target.0 target.1).1)
          new)
          (visit.led p is);
    }

pub returns : goal.returns
returns c =
    let s = c.loop-node.self in
    let old = c.loop-node.invariant in
    let members = c.args.members.now in
    let marked : (p : ℕ) → Contains members p → IsMarked s.marks.items p = λ p among.
    let placed : (i : ℕ) × (slice_get members i ≡ Some p) = get_from_contains members p among in
    let within : placed.0 < length members = slice_get_within members placed.0 p placed.1 in
    old.marked placed.0 p (omega (arith, c.loop-node-test.false)) placed.1 in
    record {
      classes = rested_classes c.args.ways.now s old.rested members marked old.only;
      marked = old.count;
      sized = old.rested.search.sized;
      path = old.rested.path;
      stack = rested_stack c.args.ways.now s old.rested;
      bounds = rested_bounds c.args.ways.now s old.rested;
    }
