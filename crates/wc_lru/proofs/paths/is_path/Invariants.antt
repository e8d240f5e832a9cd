use Rattle.std.proofs.Common.{◌≡◌, Some, drop}
use Rattle.wc_lru.specs.Inner.Places.{is_walk}
use Rattle.wc_lru.proofs.paths.is_path.Given as goal

abbrev pub invariant-loop-place : goal.invariant-loop-place
invariant-loop-place l = is_walk l.graph.steps l.at (drop l.place-index l.path) ≡ is_walk l.graph.steps (Some l.graph.start) l.path
