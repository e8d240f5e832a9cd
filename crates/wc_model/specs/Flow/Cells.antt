-- The rows and columns of a system's tableau, by which its size is limited. Steps that lead through nodes with one
-- step in and one step out have the same count, so they share a column.
use Rattle.std.specs.Prelude.{ℕ, zero, suc, ◌+◌, ◌*◌, Bool, true, not, ◌&&◌, ◌||◌, ◌==◌, nat_lt, nat_le, if◌then◌else◌, List, [], ◌∷◌, map, length, slice_get, Option, None, Some, option_map}
use Rattle.std.specs.List.{filter, range_with_len}
use Rattle.std.specs.Option.{option_and_then, unwrap_or}
use Rattle.wc_model.specs.declared.flow_system.System.{System}
use Rattle.wc_model.specs.declared.flow_system.SystemStep.{SystemStep}
use Rattle.wc_model.specs.Flow.Places.{places_of}
use Rattle.wc_model.specs.Flow.Systems.{leads_to}

-- the places of a node's steps out and in
abbrev pub outs_of : List SystemStep → ℕ → List ℕ
outs_of steps p = places_of (λ i t. t.source == p) steps

abbrev pub ins_of : List SystemStep → ℕ → List ℕ
ins_of steps p = places_of (λ i t. leads_to t.target p) steps

-- a node that is passed through: not the start, with one step in and one step out
abbrev pub is_passed : System → ℕ → Bool
is_passed s p = not (p == s.start) && length (ins_of s.steps p) == 1 && length (outs_of s.steps p) == 1

-- the step out of a passed node that a step leads to
abbrev pub only_of : List ℕ → Option ℕ
only_of [] = None
only_of (i ∷ _) = Some i

abbrev pub passed_out : System → ℕ → Option ℕ
passed_out s q = if is_passed s q then only_of (outs_of s.steps q) else None

abbrev pub next_of : System → ℕ → Option ℕ
next_of s i = option_and_then (passed_out s) (option_and_then (λ t. t.target) (slice_get s.steps i))

-- A column, in the order of a walk: a step out of a node that isn't passed through, and the steps after it up to
-- such a node. Each node is reached from the start, so each step is in exactly one.
abbrev pub column_from : System → ℕ → Option ℕ → List ℕ
column_from s most None = []
column_from s zero (Some i) = []
column_from s (suc most) (Some i) = i ∷ column_from s most (next_of s i)

abbrev pub column_of : System → ℕ → List ℕ
column_of s i = column_from s (length s.steps) (Some i)

abbrev pub first_steps : System → List ℕ
first_steps s = places_of (λ i t. not (is_passed s t.source)) s.steps

-- Steps are ordered by their sources and then by their places, columns by their least steps.
abbrev pub source_at : List SystemStep → ℕ → ℕ
source_at steps i = unwrap_or (option_map (λ t. t.source) (slice_get steps i)) 0

abbrev pub comes_before : List SystemStep → ℕ → ℕ → Bool
comes_before steps i j = nat_lt (source_at steps i) (source_at steps j) || (source_at steps i == source_at steps j && nat_le i j)

abbrev pub lesser : List SystemStep → ℕ → ℕ → ℕ
lesser steps i j = if comes_before steps i j then i else j

abbrev pub least_in : List SystemStep → ℕ → List ℕ → ℕ
least_in steps least [] = least
least_in steps least (i ∷ column) = least_in steps (lesser steps least i) column

abbrev pub starts_before : List SystemStep → List ℕ → List ℕ → Bool
starts_before steps [] later = true
starts_before steps (i ∷ column) [] = true
starts_before steps (i ∷ column) (j ∷ later) = comes_before steps (least_in steps i column) (least_in steps j later)

abbrev pub with_column : List SystemStep → List ℕ → List (List ℕ) → List (List ℕ)
with_column steps column [] = column ∷ []
with_column steps column (other ∷ columns) = if starts_before steps column other then column ∷ other ∷ columns else other ∷ with_column steps column columns

abbrev pub in_order : List SystemStep → List (List ℕ) → List (List ℕ)
in_order steps [] = []
in_order steps (column ∷ columns) = with_column steps column (in_order steps columns)

abbrev pub columns_of : System → List (List ℕ)
columns_of s = in_order s.steps (map (column_of s) (first_steps s))

-- a row per node that isn't passed through, per loop and per limit; a slack column per loop and per limit
abbrev pub row_nodes : System → List ℕ
row_nodes s = filter (λ p. not (is_passed s p)) (range_with_len 0 s.nodes)

abbrev pub row_count : System → ℕ
row_count s = length (row_nodes s) + length s.loops + length s.limits

abbrev pub slack_count : System → ℕ
slack_count s = length s.loops + length s.limits

-- with an artificial column per row, the right side and the own coefficient, and with the two rows of the goals
abbrev pub cells_of : System → ℕ
cells_of s = (row_count s + 2) * (length (columns_of s) + slack_count s + row_count s + 2)
