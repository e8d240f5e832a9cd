use Rattle.std.proofs.Common.{◌≡◌, ◌++◌, ◌-◌, ◌<◌, length}
use Rattle.std.specs.List.{All}
use Rattle.std.specs.Option.{IfSome}
use Rattle.wc_model.specs.Flow.Cells.{column_from, column_of}
use Rattle.wc_simplex.proofs.columns.column.Given as goal

abbrev pub invariant-loop-step : goal.invariant-loop-step
invariant-loop-step l =
    (l.places.items ++ column_from l.system (length l.system.steps - l._step) l.next ≡ column_of l.system l.first)
    × IfSome l.next (λ i. i < length l.system.steps) × All (λ i. i < length l.system.steps) l.places.items
