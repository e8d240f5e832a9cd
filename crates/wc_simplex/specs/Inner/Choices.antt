-- (inner) The code's choices as the definition's.
use Rattle.std.specs.Prelude.{ℕ, ◌<◌, length}
use Rattle.wc_model.specs.Flow.RowMachine as machine
use Rattle.wc_simplex.specs.declared.choice.Choice.{Choice}
use Rattle.wc_simplex.specs.declared.choice.Choice.TheVariants.{Finished, TooWide, NoRow, Pivots}
use Rattle.wc_simplex.specs.declared.tableau.Machine.{Machine}

abbrev pub chosen : Choice → machine.Choice
chosen Finished = machine.finished
chosen TooWide = machine.too_wide
chosen (NoRow j) = machine.no_row j
chosen (Pivots r j) = machine.pivots r j

-- a pivot's row and column are there
abbrev pub IsPlace : Machine → Choice → Type 0
IsPlace m Finished = Unit {0}
IsPlace m TooWide = Unit {0}
IsPlace m (NoRow j) = Unit {0}
IsPlace m (Pivots r j) = (r < length m.rows.items) × (j < m.real)
