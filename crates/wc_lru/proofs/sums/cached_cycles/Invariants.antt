use Rattle.std.proofs.Common.{◌≡◌, ◌+◌, ◌*◌, ◌^◌, ◌≤◌, drop}
use Rattle.wc_model.specs.Cache.Timing.{cached_cycles}
use Rattle.wc_lru.specs.Filled.{held_in}
use Rattle.wc_lru.specs.Inner.Places.{timed_at}
use Rattle.wc_lru.proofs.sums.cached_cycles.Given as goal

abbrev pub invariant-loop-place : goal.invariant-loop-place
invariant-loop-place l = record {
  cache : l.lru.cache ≡ l.fn.lru.cache;
  small : l.sum ≤ l.place-index * 2 ^ 33;
  sum : l.sum + cached_cycles l.fn.lru.cache l.cycles (held_in l.lru) (timed_at l.graph l.cycles (drop l.place-index l.path)) ≡ cached_cycles l.fn.lru.cache l.cycles (held_in l.fn.lru) (timed_at l.graph l.cycles l.path);
}
