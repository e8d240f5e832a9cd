use Rattle.std.proofs.Common.{◌≡◌, drop, length, take}
use Rattle.wc_model.specs.Flow.RowMachine.{reduced_others}
use Rattle.wc_simplex.specs.Inner.Machines.{AreWide}
use Rattle.wc_simplex.specs.Inner.Steps.{behind}
use Rattle.wc_simplex.proofs.tableau.reduce_others.Given as goal

abbrev pub invariant-loop-index : goal.invariant-loop-index
invariant-loop-index l =
    AreWide (length l.pivot) l.rows.items × (length l.rows.items ≡ length l.fn.rows.items)
    × (behind (take l.index l.rows.items) (reduced_others l.place l.column l.pivot l.index (drop l.index l.rows.items)) ≡ reduced_others l.place l.column l.pivot 0 l.fn.rows.items)
