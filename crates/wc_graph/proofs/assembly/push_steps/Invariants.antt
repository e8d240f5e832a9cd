use Rattle.std.proofs.Common.{◌≡◌, ◌++◌, flat_map, take}
use Rattle.wc_graph.specs.Inner.Assemblies.{step_of}
use Rattle.wc_graph.proofs.assembly.push_steps.Given as goal

abbrev pub invariant-loop-leap : goal.invariant-loop-leap
invariant-loop-leap l = l.steps.items ≡ l.fn.steps.items ++ flat_map (step_of l.numbers l.source) (take l.leap-index l.leaps)
