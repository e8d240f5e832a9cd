use Rattle.std.proofs.Common.{ℕ, ◌≡◌, ◌<◌, Bool, true, slice_index_or}
use Rattle.wc_nest.proofs.tests.all_true.Given as goal

abbrev pub invariant-loop-flag : goal.invariant-loop-flag
invariant-loop-flag l = (k : ℕ) (d : Bool) → k < l.flag-index → slice_index_or l.flags k d ≡ true
