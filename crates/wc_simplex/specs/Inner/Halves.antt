-- (inner) Rows as they are made.
use Rattle.std.specs.Prelude.{◌≡◌, ◌==◌, ℕ, ℤ, pos, false, List, [], ◌∷◌, ◌++◌, map, replicate, get_or, Option, None, Some, option_and_then}
use Rattle.wc_model.specs.declared.flow_system.System.{System}
use Rattle.wc_model.specs.Flow.Exact.{each_of, sum_exact}
use Rattle.wc_model.specs.Flow.Tableaus.{Half, half, half_of, one_if, slack_entries}
use Rattle.wc_simplex.specs.declared.half.HalfRow.{HalfRow}
use Rattle.wc_simplex.specs.Inner.Columns.{node_ends}
use Rattle.wc_simplex.specs.declared.stated.StatedRow.{StatedRow}

abbrev pub half_as : HalfRow → Half
half_as h = half h.real.items h.side h.negated

-- with its right side
abbrev pub line_of : HalfRow → List ℤ
line_of h = h.real.items ++ h.side ∷ []

-- the sum of the entries at a column's steps
abbrev pub column_sum : List ℤ → List ℕ → Option ℤ
column_sum entries column = sum_exact (pos 0) (map (λ i. get_or entries i (pos 0)) column)

abbrev pub row_half : List (List ℕ) → ℕ → ℕ → StatedRow → Option Half
row_half columns slacks own row =
    option_and_then (λ entries. half_of row.side (entries ++ slack_entries slacks own row.slack)) (each_of (column_sum row.entries.items) columns)

-- the row of a node, by columns between nodes that have rows
abbrev pub node_half : System → List (List ℕ) → ℕ → ℕ → Half
node_half s columns slacks q = half (map (node_ends s.steps q) columns ++ replicate slacks (pos 0)) (one_if (q == s.start)) false
