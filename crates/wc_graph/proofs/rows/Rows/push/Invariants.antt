use Rattle.std.proofs.Common.{◌≡◌, ◌++◌, take}
use Rattle.wc_graph.proofs.rows.Rows.push.Given as goal

abbrev pub invariant-loop-leap : goal.invariant-loop-leap
invariant-loop-leap l =
    record {
      grown : l.self-inside.leaps.items ≡ l.initial.self-inside.leaps.items ++ take l.leap-index l.leaps;
      same : l.self-inside.pieces ≡ l.initial.self-inside.pieces;
    }
