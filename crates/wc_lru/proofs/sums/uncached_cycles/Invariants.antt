use Rattle.std.proofs.Common.{◌≡◌, ◌+◌, ◌*◌, ◌^◌, ◌≤◌, drop}
use Rattle.wc_model.specs.Cache.Timing.{uncached_cycles}
use Rattle.wc_lru.specs.Inner.Places.{timed_at}
use Rattle.wc_lru.proofs.sums.uncached_cycles.Given as goal

abbrev pub invariant-loop-place : goal.invariant-loop-place
invariant-loop-place l = record {
  small : l.sum ≤ l.place-index * 2 ^ 32;
  sum : l.sum + uncached_cycles (timed_at l.graph l.cycles (drop l.place-index l.path)) ≡ uncached_cycles (timed_at l.graph l.cycles l.path);
}
