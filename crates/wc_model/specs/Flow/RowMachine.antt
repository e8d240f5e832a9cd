-- The row machine: the simplex method over whole numbers. It is stated step by step, since where a number leaves
-- 128 bits is part of its outcome. The least column enters, and a tie goes to the least basis column (Bland 1977).
use Rattle.std.specs.Prelude.{ℕ, zero, suc, ◌+◌, ◌==◌, Bool, true, false, not, ◌&&◌, ◌||◌, nat_lt, if◌then◌else◌, ℤ, pos, negsuc, ◌*ℤ◌, List, [], ◌∷◌, take, set, get_or, Option, None, Some, option_map, option_and_then}
use Rattle.std.specs.Prelude.{int_lt, int_le}
use Rattle.wc_model.specs.Flow.Exact.{exact, negate_exact, each_of, mix_row, lowest}

-- A row has its entries at the structural, the slack and the artificial columns, its right side, and its own
-- coefficient, which is 0 but in `z` and `w`. `basis` has the basis column of each row.
pub record Tableau : Type 0 where
  pub rows : List (List ℤ)
  pub z : List ℤ
  pub w : List ℤ
  pub basis : List ℕ

abbrev pub tableau : List ℕ → List (List ℤ) → List ℤ → List ℤ → Tableau
tableau basis rows z w = record { rows = rows; z = z; w = w; basis = basis }

-- `real` columns are structural or slack ones; the right side stands at `right`.
pub record Shape : Type 0 where
  pub real : ℕ
  pub right : ℕ

abbrev pub entry : List ℤ → ℕ → ℤ
entry row j = get_or row j (pos 0)

abbrev pub cell : Tableau → ℕ → ℕ → ℤ
cell t i j = entry (get_or t.rows i []) j

abbrev pub is_positive : ℤ → Bool
is_positive (pos zero) = false
is_positive (pos (suc n)) = true
is_positive (negsuc n) = false

abbrev pub is_negative : ℤ → Bool
is_negative (pos n) = false
is_negative (negsuc n) = true

abbrev pub is_zero : ℤ → Bool
is_zero (pos zero) = true
is_zero _ = false

-- The first place, counted from `i`, whose entry passes a test.
abbrev pub place_from : (ℤ → Bool) → ℕ → List ℤ → Option ℕ
place_from test i [] = None
place_from test i (x ∷ xs) = if test x then Some i else place_from test (i + 1) xs

-- Pivot at (r, j). A row with a 0 in the column stays, as the pivot's row does; every other one becomes the pivot's
-- entry times itself less its own entry times the pivot's row, in lowest terms.
abbrev pub reduced : ℕ → List ℤ → List ℤ → Option (List ℤ)
reduced j pivot row =
    if is_zero (entry row j) then Some row else option_map lowest (mix_row (entry pivot j) (entry row j) row pivot)

abbrev pub reduced_others : ℕ → ℕ → List ℤ → ℕ → List (List ℤ) → Option (List (List ℤ))
reduced_others r j pivot i [] = Some []
reduced_others r j pivot i (row ∷ rows) =
    option_and_then (λ new. option_map (λ later. new ∷ later) (reduced_others r j pivot (i + 1) rows)) (if i == r then Some row else reduced j pivot row)

abbrev pub pivoted : ℕ → ℕ → Tableau → Option Tableau
pivoted r j t =
    option_and_then (λ rows. option_and_then (λ z. option_map (λ w. tableau (set t.basis r j) rows z w) (reduced j (get_or t.rows r []) t.w)) (reduced j (get_or t.rows r []) t.z)) (reduced_others r j (get_or t.rows r []) 0 t.rows)

-- The least structural or slack column at which a goal row is negative enters.
abbrev pub entering : Shape → List ℤ → Option ℕ
entering shape goal = place_from is_negative 0 (take shape.real goal)

-- Row `i` leaves rather than row `b`, the best so far: its right side over its entry is less, by cross products, or
-- equal while its basis column is less.
abbrev pub beats : Shape → Tableau → ℕ → ℕ → ℕ → Option Bool
beats shape t j i b =
    option_and_then (λ own. option_map (λ best. int_lt own best || int_le own best && nat_lt (get_or t.basis i 0) (get_or t.basis b 0)) (exact (cell t b shape.right *ℤ cell t i j))) (exact (cell t i shape.right *ℤ cell t b j))

abbrev pub better : Shape → Tableau → ℕ → Option ℕ → ℕ → Option (Option ℕ)
better shape t j None i = Some (Some i)
better shape t j (Some b) i = option_map (λ beaten. if beaten then Some i else Some b) (beats shape t j i b)

-- over the rows in order with an entry above 0
abbrev pub leaving_from : Shape → Tableau → ℕ → ℕ → Option ℕ → List (List ℤ) → Option (Option ℕ)
leaving_from shape t j i best [] = Some best
leaving_from shape t j i best (row ∷ rows) =
    option_and_then (λ now. leaving_from shape t j (i + 1) now rows) (if is_positive (entry row j) then better shape t j best i else Some best)

-- A choice: no column enters; a number left the range; no row leaves; or a pivot.
pub data Choice : Type 0 where
  finished : Choice
  too_wide : Choice
  no_row : ℕ → Choice
  pivots : ℕ → ℕ → Choice

abbrev pub choice_at : ℕ → Option (Option ℕ) → Choice
choice_at j None = too_wide
choice_at j (Some None) = no_row j
choice_at j (Some (Some r)) = pivots r j

abbrev pub choice_of : Shape → Tableau → Option ℕ → Choice
choice_of shape t None = finished
choice_of shape t (Some j) = choice_at j (leaving_from shape t j 0 None t.rows)

abbrev pub choice : Shape → List ℤ → Tableau → Choice
choice shape goal t = choice_of shape t (entering shape goal)

-- How some steps end: with so many pivots left and a tableau, or for good. That no row leaves never comes of the
-- systems that the machine is for; it has an end of its own here, so that each tableau has one.
pub data Ending : Type 0 where
  reached : ℕ → Tableau → Ending
  number_limit : Ending
  pivot_limit : Ending
  unbounded : Ending

abbrev pub goal_row : Bool → Tableau → List ℤ
goal_row true t = t.w
goal_row false t = t.z

abbrev pub after_choice : Ending → (ℕ → ℕ → Ending) → Choice → Ending
after_choice done goes finished = done
after_choice done goes too_wide = number_limit
after_choice done goes (no_row j) = unbounded
after_choice done goes (pivots r j) = goes r j

abbrev pub after_pivot : (Tableau → Ending) → Option Tableau → Ending
after_pivot goes None = number_limit
after_pivot goes (Some later) = goes later

-- One phase, with so many pivots left: the first one with the goal row W, the second one with Z. A choice comes
-- before the count is looked at.
unfoldable pub phase : Bool → Shape → ℕ → Tableau → Ending
phase first shape zero t = after_choice (reached 0 t) (λ r j. pivot_limit) (choice shape (goal_row first t) t)
phase first shape (suc left) t =
    after_choice (reached (suc left) t) (λ r j. after_pivot (phase first shape left) (pivoted r j t)) (choice shape (goal_row first t) t)

-- Between the phases the rows whose basis is artificial are taken in order. The least structural or slack column at
-- which the row isn't 0 takes its basis; where the entry is negative the row is negated before. A row without such a
-- column is left out: it stays as it is from then on.
abbrev pub with_row : Tableau → ℕ → List ℤ → Tableau
with_row t i row = record t { rows = set t.rows i row }

abbrev pub turned : ℕ → ℕ → Tableau → Option Tableau
turned i j t = if is_negative (cell t i j) then option_map (with_row t i) (each_of negate_exact (get_or t.rows i [])) else Some t

abbrev pub driven_at : (ℕ → Tableau → Ending) → ℕ → ℕ → Tableau → Option ℕ → Ending
driven_at goes left i t None = goes left t
driven_at goes zero i t (Some j) = pivot_limit
driven_at goes (suc left) i t (Some j) = after_pivot (goes left) (option_and_then (pivoted i j) (turned i j t))

abbrev pub is_real : Shape → ℕ → Bool
is_real shape column = nat_lt column shape.real

unfoldable pub driven : Shape → ℕ → ℕ → Tableau → List (List ℤ) → Ending
driven shape left i t [] = reached left t
driven shape left i t (_ ∷ later) =
    if is_real shape (get_or t.basis i 0) then driven shape left (i + 1) t later
    else driven_at (λ left t. driven shape left (i + 1) t later) left i t (place_from (λ x. not (is_zero x)) 0 (take shape.real (get_or t.rows i [])))

-- How the machine ends.
pub data MachineEnd : Type 0 where
  best : Tableau → MachineEnd
  infeasible : Tableau → MachineEnd
  wide : MachineEnd
  many : MachineEnd
  endless : MachineEnd

abbrev pub after_ending : (ℕ → Tableau → MachineEnd) → Ending → MachineEnd
after_ending goes (reached left t) = goes left t
after_ending goes number_limit = wide
after_ending goes pivot_limit = many
after_ending goes unbounded = endless

abbrev pub second_phase : Shape → ℕ → Tableau → MachineEnd
second_phase shape left t = after_ending (λ _ end. best end) (phase false shape left t)

abbrev pub between : Shape → ℕ → Tableau → MachineEnd
between shape left t =
    if is_negative (entry t.w shape.right) then infeasible t
    else after_ending (second_phase shape) (driven shape left 0 t t.rows)

-- At most `most` pivots are made.
abbrev pub machine : Shape → ℕ → Tableau → MachineEnd
machine shape most t = after_ending (between shape) (phase true shape most t)
