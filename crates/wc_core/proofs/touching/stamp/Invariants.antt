use Rattle.std.proofs.Common.{◌≡◌, ◌++◌, map, take, drop}
use Rattle.wc_model.specs.Workspace.Closures.{closure}
use Rattle.wc_core.specs.Inner.Touching.{stamped, touches_kind}
use Rattle.wc_core.proofs.touching.stamp.Given as goal

abbrev pub invariant-loop-key : goal.invariant-loop-key
invariant-loop-key l = l.key-items ≡ map (stamped (λ k. touches_kind l.touched (closure l.registry k)) l.count) (take l.key-index l.initial.key-items) ++ drop l.key-index l.initial.key-items
