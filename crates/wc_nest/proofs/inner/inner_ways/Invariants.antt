use Rattle.std.proofs.Common.{◌≡◌, ◌++◌, drop}
use Rattle.std.specs.List.{filter}
use Rattle.wc_nest.specs.Inner.Levels.{is_inner}
use Rattle.wc_nest.proofs.inner.inner_ways.Given as goal

abbrev pub invariant-loop-way : goal.invariant-loop-way
invariant-loop-way l = l.inner.items ++ filter (is_inner l.marks l.entered l.start) (drop l.way-index l.ways) ≡ filter (is_inner l.marks l.entered l.start) l.ways
