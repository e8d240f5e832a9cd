use Rattle.std.proofs.Common.{◌≡◌, ◌++◌, drop}
use Rattle.wc_graph.specs.Inner.Assemblies.{steps_from}
use Rattle.wc_graph.proofs.assembly.steps.Given as goal

abbrev pub invariant-loop-source : goal.invariant-loop-source
invariant-loop-source l = l.steps.items ++ steps_from l.leaps l.numbers l.source (drop l.source l.order) ≡ steps_from l.leaps l.numbers 0 l.order
