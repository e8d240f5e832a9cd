use Rattle.std.proofs.Common.{List, None, false, get_or, arith}
use Rattle.wc_graph.specs.declared.frames.Leap.{Leap}
use Rattle.wc_graph.proofs.SpreadLemmas.{at_has}
use Rattle.wc_graph.proofs.assembly.push_steps.Goals as goal

pub push_step-requires : goal.push_step-requires
push_step-requires c =
    let leaps : List Leap = c.args.leaps.now in
    let none : Leap = record { target = None; taken = false } in
    c.requires (get_or leaps c.loop-leap.leap-index none) (at_has leaps c.loop-leap.leap-index none (omega arith))
