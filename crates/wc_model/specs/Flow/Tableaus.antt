-- Where the row machine starts, and what is read of its end. All sums are added in the order of their lists.
use Rattle.std.specs.Prelude.{ℕ, suc, ◌+◌, ◌==◌, Bool, true, false, if◌then◌else◌, ℤ, pos, ◌-ℤ◌, List, [], ◌∷◌, ◌++◌, map, length, take, replicate, get_or, Option, None, Some, option_map, option_and_then}
use Rattle.std.specs.List.{range_with_len}
use Rattle.wc_model.specs.declared.flow_system.System.{System}
use Rattle.wc_model.specs.declared.flow_system.SystemStep.{SystemStep}
use Rattle.wc_model.specs.declared.flow_system.SystemLoop.{SystemLoop}
use Rattle.wc_model.specs.declared.flow_system.SystemLimit.{SystemLimit}
use Rattle.wc_model.specs.Flow.Cells.{row_nodes}
use Rattle.wc_model.specs.Flow.Certificates.{factor_of}
use Rattle.wc_model.specs.Flow.Exact.{negate_exact, each_of, sum_exact, add_rows}
use Rattle.wc_model.specs.Flow.Places.{is_listed}
use Rattle.wc_model.specs.Flow.RowMachine.{Tableau, Shape, tableau, is_negative}
use Rattle.wc_model.specs.Flow.Systems.{leads_to}

-- A row as the system states it: its entry at each step, its right side, and whether it is an inequality.
pub record Line : Type 0 where
  pub at_step : ℕ → SystemStep → ℤ
  pub side : ℤ
  pub slack : Bool

abbrev pub one_if : Bool → ℤ
one_if true = pos 1
one_if false = pos 0

-- out less in is 1 at the start, and 0 elsewhere
abbrev pub node_line : System → ℕ → Line
node_line system q = record { at_step = λ i s. one_if (s.source == q) -ℤ one_if (leads_to s.target q); side = one_if (q == system.start); slack = false }

-- back steps less bound times entry steps are at most the bound where the head is the start, and 0 elsewhere
abbrev pub loop_line : System → SystemLoop → Line
loop_line system l =
    record {
      at_step = λ i s. one_if (is_listed i l.back) -ℤ (if is_listed i l.entry then pos l.bound else pos 0);
      side = if l.head == system.start then pos l.bound else pos 0;
      slack = true;
    }

abbrev pub limit_line : SystemLimit → Line
limit_line l = record { at_step = λ i s. factor_of s.source l.factors; side = l.constant; slack = true }

abbrev pub lines_of : System → List Line
lines_of system = map (node_line system) (row_nodes system) ++ map (loop_line system) system.loops ++ map limit_line system.limits

-- a step's entry in a line; places stand in the list of steps
abbrev pub no_step : SystemStep
no_step = record { source = 0; target = None; cost = 0 }

abbrev pub step_entry : System → Line → ℕ → ℤ
step_entry system line i = line.at_step i (get_or system.steps i no_step)

abbrev pub column_entry : System → Line → List ℕ → Option ℤ
column_entry system line column = sum_exact (pos 0) (map (step_entry system line) column)

abbrev pub column_cost : System → List ℕ → Option ℤ
column_cost system column = sum_exact (pos 0) (map (λ i. pos (get_or system.steps i no_step).cost) column)

-- The entries of a line at the structural columns, then at the slack columns: 1 at its own, if it has one.
abbrev pub count_slacks : List Line → ℕ
count_slacks [] = 0
count_slacks (l ∷ ls) = if l.slack then suc (count_slacks ls) else count_slacks ls

-- `n` numbers, 1 at one place
abbrev pub unit_row : ℕ → ℕ → List ℤ
unit_row n place = map (λ k. one_if (k == place)) (range_with_len 0 n)

abbrev pub slack_entries : ℕ → ℕ → Bool → List ℤ
slack_entries slacks own true = unit_row slacks own
slack_entries slacks own false = replicate slacks (pos 0)

-- A row before its artificial column: its real entries and its right side. It is negated where the right side is
-- negative.
pub record Half : Type 0 where
  pub real : List ℤ
  pub side : ℤ
  pub negated : Bool

abbrev pub half : List ℤ → ℤ → Bool → Half
half real side negated = record { real = real; side = side; negated = negated }

abbrev pub half_of : ℤ → List ℤ → Option Half
half_of side real =
    if is_negative side then option_and_then (λ turned. option_map (λ right. half turned right true) (negate_exact side)) (each_of negate_exact real)
    else Some (half real side false)

abbrev pub halves : System → List (List ℕ) → ℕ → ℕ → List Line → Option (List Half)
halves system columns slacks own [] = Some []
halves system columns slacks own (l ∷ ls) =
    option_and_then (λ entries. option_and_then (λ h. option_map (λ hs. h ∷ hs) (halves system columns slacks (if l.slack then suc own else own) ls)) (half_of l.side (entries ++ slack_entries slacks own l.slack))) (each_of (column_entry system l) columns)

abbrev pub whole_row : ℕ → ℕ → Half → List ℤ
whole_row rows place h = h.real ++ unit_row rows place ++ h.side ∷ pos 0 ∷ []

abbrev pub whole_rows : ℕ → ℕ → List Half → List (List ℤ)
whole_rows rows place [] = []
whole_rows rows place (h ∷ hs) = whole_row rows place h ∷ whole_rows rows (suc place) hs

-- the goal rows: minus the cost, and minus the sum of the rows
abbrev pub sum_of_rows : List ℤ → List (List ℤ) → Option (List ℤ)
sum_of_rows acc [] = Some acc
sum_of_rows acc (row ∷ rows) = option_and_then (λ sum. sum_of_rows sum rows) (add_rows acc row)

abbrev pub cost_row : ℕ → ℕ → List ℤ → List ℤ
cost_row slacks rows costs = costs ++ replicate (slacks + rows) (pos 0) ++ pos 0 ∷ pos 1 ∷ []

abbrev pub goal_start : ℕ → List ℤ → List ℤ → List ℤ
goal_start rows real side = real ++ replicate rows (pos 0) ++ side ++ pos 1 ∷ []

-- What the machine starts from: its shape, its tableau, and which rows were negated.
pub record Start : Type 0 where
  pub shape : Shape
  pub first : Tableau
  pub negated : List Bool

abbrev pub shape_of : ℕ → ℕ → ℕ → Shape
shape_of columns slacks rows = record { real = columns + slacks; right = columns + slacks + rows }

abbrev pub start_with : System → ℕ → ℕ → List Half → List ℤ → List ℤ → Start
start_with system columns slacks hs costs sums =
    record {
      shape = shape_of columns slacks (length hs);
      first =
          tableau
          (range_with_len (columns + slacks) (length hs))
          (whole_rows (length hs) 0 hs)
          (cost_row slacks (length hs) costs)
          (goal_start (length hs) (take (columns + slacks) sums) (get_or sums (columns + slacks) (pos 0) ∷ []));
      negated = map (λ h. h.negated) hs;
    }

abbrev pub starting : System → List (List ℕ) → Option Start
starting system columns =
    option_and_then (λ hs. option_and_then (λ costs. option_and_then (λ sums. option_map (start_with system (length columns) (count_slacks (lines_of system)) hs costs) (each_of negate_exact sums)) (sum_of_rows (replicate (suc (length columns + count_slacks (lines_of system))) (pos 0)) (map (λ h. h.real ++ h.side ∷ []) hs))) (each_of (λ column. option_and_then negate_exact (column_cost system column)) columns)) (halves system columns (count_slacks (lines_of system)) 0 (lines_of system))
