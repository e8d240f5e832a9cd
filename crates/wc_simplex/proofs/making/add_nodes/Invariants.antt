use Rattle.std.proofs.Common.{◌≡◌, ◌++◌, List}
use Rattle.wc_model.specs.Flow.Tableaus.{Line, halves}
use Rattle.wc_simplex.specs.Inner.Making.{made_before, nodes_from}
use Rattle.wc_simplex.proofs.making.add_nodes.Given as goal

abbrev pub invariant-loop-node : goal.invariant-loop-node
invariant-loop-node l =
    (ls : List Line)
    → made_before l.fn.made.items (halves l.system l.columns l.slacks 0 (nodes_from l.system 0 ++ ls))
    ≡ made_before l.made.items (halves l.system l.columns l.slacks 0 (nodes_from l.system l.node ++ ls))
