use Rattle.std.proofs.Common.{◌≡◌, ◌++◌, List, drop}
use Rattle.std.specs.List.{flat_map}
use Rattle.wc_model.specs.declared.flow_facts.Fact.{Fact}
use Rattle.wc_graph.specs.Inner.Stated.{AreStated}
use Rattle.wc_graph.specs.Inner.Ways.{call_turns}
use Rattle.wc_graph.proofs.ways.push_calls.Given as goal

abbrev pub invariant-loop-callee : goal.invariant-loop-callee
invariant-loop-callee l = (facts : List Fact) → AreStated facts l.stated → l.turns.items ++ flat_map (call_turns facts l.at) (drop l.callee-index l.callees) ≡ l.fn.turns.items ++ flat_map (call_turns facts l.at) l.callees
