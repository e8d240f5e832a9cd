use Rattle.std.proofs.Common.{◌≡◌, ◌++◌, drop}
use Rattle.std.specs.List.{filter}
use Rattle.wc_nest.specs.Inner.Levels.{is_looped}
use Rattle.wc_nest.proofs.inner.loop_members.Given as goal

abbrev pub invariant-loop-node : goal.invariant-loop-node
invariant-loop-node l = l.inner.items ++ filter (is_looped l.marks l.looped) (drop l.node-index l.members) ≡ filter (is_looped l.marks l.looped) l.members
