use Rattle.std.proofs.Common.{◌≡◌, drop}
use Rattle.wc_nest.specs.Inner.Levels.{second_of}
use Rattle.wc_nest.proofs.heads.second_head.Given as goal

abbrev pub invariant-loop-node : goal.invariant-loop-node
invariant-loop-node l = second_of l.marks l.pairs (drop l.node-index l.members) ≡ second_of l.marks l.pairs l.members
