-- (inner) The tableau that the machine starts from.
use Rattle.std.specs.Prelude.{◌≡◌, ℕ, suc, ◌+◌, ℤ, pos, List, [], ◌∷◌, ◌++◌, map, length, replicate, Option, option_map, option_and_then}
use Rattle.std.specs.List.{range_with_len}
use Rattle.wc_model.specs.declared.flow_system.System.{System}
use Rattle.wc_model.specs.Flow.Exact.{each_of, negate_exact}
use Rattle.wc_model.specs.Flow.Tableaus.{Half, Start, column_cost, start_with, sum_of_rows, whole_rows}
use Rattle.wc_simplex.specs.declared.half.HalfRow.{HalfRow}
use Rattle.wc_simplex.specs.declared.start.Start as code
use Rattle.wc_simplex.specs.Inner.Halves.{half_as}
use Rattle.wc_simplex.specs.Inner.Machines.{seen, shape_of}

abbrev pub start_as : code.Start → Start
start_as s = record { shape = shape_of s.machine; first = seen s.machine; negated = s.negated.items }

-- from the rows before their artificial columns
abbrev pub start_from : System → List (List ℕ) → ℕ → List Half → Option Start
start_from system columns slacks hs =
    option_and_then (λ costs. option_and_then (λ sums. option_map (start_with system (length columns) slacks hs costs) (each_of negate_exact sums)) (sum_of_rows (replicate (suc (length columns + slacks)) (pos 0)) (map (λ h. h.real ++ h.side ∷ []) hs))) (each_of (λ column. option_and_then negate_exact (column_cost system column)) columns)

pub record IsBegun (halves : List HalfRow) (real : ℕ) (z w : List ℤ) (s : code.Start) : Type 0 where
  pub rows : s.machine.rows.items ≡ whole_rows (length halves) 0 (map half_as halves)
  pub z_is : s.machine.z ≡ z
  pub w_is : s.machine.w ≡ w
  pub basis : s.machine.basis.items ≡ range_with_len real (length halves)
  pub real_is : s.machine.real ≡ real
  pub right_is : s.machine.right ≡ real + length halves
  pub negated : s.negated.items ≡ map (λ h. h.negated) (map half_as halves)
