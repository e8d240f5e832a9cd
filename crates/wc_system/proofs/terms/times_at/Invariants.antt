use Rattle.std.proofs.Common.{◌≡◌, ◌+◌, ◌*◌, ◌≤◌, ◌<◌, ◌^◌, ◌-◌, ℕ, drop, length, slice_index_or}
use Rattle.wc_system.specs.declared.terms.Visit.{Visit}
use Rattle.wc_system.specs.Inner.Contexts.{position_in}
use Rattle.wc_system.specs.Inner.Terms.{visit_sum}
use Rattle.wc_system.proofs.terms.times_at.Given as goal

abbrev pub invariant-loop-place : goal.invariant-loop-place
invariant-loop-place l = record {
  inside : l.place ≤ length l.visits;
  small : l.sum ≤ l.place * 2 ^ 32;
  from : (k : ℕ) (d : Visit) → l.place ≤ k → k < length l.visits → l.node.pc ≤ (slice_index_or l.visits k d).at;
  to_come : l.sum + visit_sum (position_in l.contexts l.node) (drop l.place l.visits) ≡ visit_sum (position_in l.contexts l.node) l.visits;
}

abbrev pub decreases-loop-place : goal.decreases-loop-place
decreases-loop-place l = length l.visits - l.place
