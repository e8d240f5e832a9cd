-- From the rows to the start.
use Rattle.std.proofs.Common.{◌≡◌, ℕ, suc, ◌+◌, ◌-◌, ℤ, pos, Bool, List, [], ◌∷◌, ◌++◌, map, get_or, take, replicate, length, Option, None, Some, option_and_then, option_map, refl, sym, ap, ap₂, ◌∙◌, arith}
use Rattle.std.specs.List.{All, range_with_len}
use Rattle.std.proofs.lemmas.List.{get_or-map, length-map}
use Rattle.std.proofs.lemmas.Option.{same_Some}
use Rattle.wc_model.specs.declared.flow_system.System.{System}
use Rattle.wc_model.specs.Flow.Exact.{each_of, negate_exact}
use Rattle.wc_model.specs.Flow.RowMachine as machine
use Rattle.wc_model.specs.Flow.RowMachine.{Shape, Tableau}
use Rattle.wc_model.specs.Flow.Tableaus.{Half, Start, column_cost, cost_row, count_slacks, goal_start, halves, lines_of, start_with, starting, sum_of_rows, whole_rows}
use Rattle.wc_simplex.specs.declared.half.HalfRow.{HalfRow}
use Rattle.wc_simplex.specs.declared.start.Start as begun
use Rattle.wc_simplex.specs.Inner.Halves.{half_as, line_of}
use Rattle.wc_simplex.specs.Inner.Starts.{IsBegun, start_as, start_from}
use Rattle.wc_simplex.proofs.StartLemmas.{half_at, halves_are, halves_count}
use Rattle.wc_simplex.proofs.CellLemmas.{slacks_are}

lines_same : (hs : List HalfRow) → map line_of hs ≡ map (λ h. h.real ++ h.side ∷ []) (map half_as hs)
lines_same [] = refl
lines_same (h ∷ hs) = ap (λ l. line_of h ∷ l) (lines_same hs)

module _ (s : System) (columns : List (List ℕ)) (slacks real : ℕ) (hs : List HalfRow) (z w : Option (List ℤ)) (is_real : real ≡ length columns + slacks)
    (is_z : z ≡ option_map (cost_row slacks (length hs)) (each_of (λ column. option_and_then negate_exact (column_cost s column)) columns)) where
  abbrev costs : Option (List ℤ)
  costs = each_of (λ column. option_and_then negate_exact (column_cost s column)) columns

  abbrev sums : Option (List ℤ)
  sums = sum_of_rows (replicate (real + 1) (pos 0)) (map line_of hs)

  abbrev goal_of : List ℤ → List ℤ
  goal_of turned = goal_start (length hs) (take real turned) (get_or turned real (pos 0) ∷ [])

  sums_same : sums ≡ sum_of_rows (replicate (suc (length columns + slacks)) (pos 0)) (map (λ h. h.real ++ h.side ∷ []) (map half_as hs))
  sums_same =
      let one : real + 1 ≡ suc (length columns + slacks) = omega (arith, is_real) in
      ap₂ (λ n ls. sum_of_rows (replicate n (pos 0)) ls) one (lines_same hs)

  pub goal_fails : (zs : List ℤ) → z ≡ Some zs → w ≡ option_map goal_of (option_and_then (each_of negate_exact) sums) → w ≡ None → None ≡ start_from s columns slacks (map half_as hs)
  goal_fails zs some_z is_w none = by costs (each_of_none (option_and_then (each_of negate_exact) sums) (sym is_w ∙ none))
    where
      each_of_none : (o : Option (List ℤ)) → option_map goal_of o ≡ None → o ≡ None
      each_of_none None e = refl
      each_of_none (Some t) e = absurd (cc)

      at : (cs : List ℤ) (o : Option (List ℤ)) → option_and_then (each_of negate_exact) o ≡ None
          → None ≡ option_and_then (λ sums. option_map (start_with s (length columns) slacks (map half_as hs) cs) (each_of negate_exact sums)) o
      at cs None e = refl
      at cs (Some t) e = sym (ap (option_map (start_with s (length columns) slacks (map half_as hs) cs)) e)

      by : (o : Option (List ℤ)) → option_and_then (each_of negate_exact) sums ≡ None
          → None ≡ option_and_then (λ costs. option_and_then (λ sums. option_map (start_with s (length columns) slacks (map half_as hs) costs) (each_of negate_exact sums)) (sum_of_rows (replicate (suc (length columns + slacks)) (pos 0)) (map (λ h. h.real ++ h.side ∷ []) (map half_as hs)))) o
      by None e = refl
      by (Some cs) e = at cs sums e ∙ ap (option_and_then (λ sums. option_map (start_with s (length columns) slacks (map half_as hs) cs) (each_of negate_exact sums))) sums_same

  pub costs_fail : z ≡ None → None ≡ start_from s columns slacks (map half_as hs)
  costs_fail none = by costs (sym is_z ∙ none)
    where
      by : (o : Option (List ℤ)) → option_map (cost_row slacks (length hs)) o ≡ None
          → None ≡ option_and_then (λ costs. option_and_then (λ sums. option_map (start_with s (length columns) slacks (map half_as hs) costs) (each_of negate_exact sums)) (sum_of_rows (replicate (suc (length columns + slacks)) (pos 0)) (map (λ h. h.real ++ h.side ∷ []) (map half_as hs)))) o
      by None e = refl
      by (Some cs) e = absurd (cc)

  pub goal_begins : (zs ws : List ℤ) (st : begun.Start) → z ≡ Some zs → w ≡ option_map goal_of (option_and_then (each_of negate_exact) sums) → w ≡ Some ws → IsBegun hs real zs ws st
      → Some (start_as st) ≡ start_from s columns slacks (map half_as hs)
  goal_begins zs ws st some_z is_w some_w is = by costs (sym is_z ∙ some_z)
    where
      start_same : (cs turned : List ℤ) → cost_row slacks (length hs) cs ≡ zs → goal_of turned ≡ ws → start_as st ≡ start_with s (length columns) slacks (map half_as hs) cs turned
      start_same cs turned same_z same_w = starts
        where
          shape : ℕ → ℕ → Shape
          shape a b = record { real = a; right = b }

          tab : List ℕ → List (List ℤ) → List ℤ → List ℤ → Tableau
          tab b r x y = record { rows = r; z = x; w = y; basis = b }

          begin : ℕ → ℕ → List ℕ → List (List ℤ) → List ℤ → List ℤ → List Bool → Start
          begin a b basis rows x y negated = record { shape = record { real = a; right = b }; first = record { rows = rows; z = x; w = y; basis = basis }; negated = negated }

          count : length (map half_as hs) ≡ length hs
          count = length-map hs half_as

          step1 : begin st.machine.real st.machine.right st.machine.basis.items st.machine.rows.items st.machine.z st.machine.w st.negated.items
              ≡ begin (length columns + slacks) (length columns + slacks + length (map half_as hs)) (range_with_len (length columns + slacks) (length (map half_as hs))) (whole_rows (length (map half_as hs)) 0 (map half_as hs))
              (cost_row slacks (length (map half_as hs)) cs) (goal_start (length (map half_as hs)) (take (length columns + slacks) turned) (get_or turned (length columns + slacks) (pos 0) ∷ [])) (map (λ h. h.negated) (map half_as hs))
          step1 =
              ap₂ (λ a b. begin a b st.machine.basis.items st.machine.rows.items st.machine.z st.machine.w st.negated.items) (is.real_is ∙ is_real) (is.right_is ∙ ap₂ (λ m n. m + n) is_real (sym count))
              ∙ ap₂ (λ b r. begin (length columns + slacks) (length columns + slacks + length (map half_as hs)) b r st.machine.z st.machine.w st.negated.items) (is.basis ∙ ap₂ range_with_len is_real (sym count)) (is.rows ∙ ap (λ n. whole_rows n 0 (map half_as hs)) (sym count))
              ∙ ap₂ (λ x y. begin (length columns + slacks) (length columns + slacks + length (map half_as hs)) (range_with_len (length columns + slacks) (length (map half_as hs))) (whole_rows (length (map half_as hs)) 0 (map half_as hs)) x y st.negated.items)
              (is.z_is ∙ sym same_z ∙ ap (λ n. cost_row slacks n cs) (sym count)) (is.w_is ∙ sym same_w ∙ ap₂ (λ n r. goal_start n (take r turned) (get_or turned r (pos 0) ∷ [])) (sym count) is_real)
              ∙ ap (begin (length columns + slacks) (length columns + slacks + length (map half_as hs)) (range_with_len (length columns + slacks) (length (map half_as hs))) (whole_rows (length (map half_as hs)) 0 (map half_as hs))
              (cost_row slacks (length (map half_as hs)) cs) (goal_start (length (map half_as hs)) (take (length columns + slacks) turned) (get_or turned (length columns + slacks) (pos 0) ∷ []))) is.negated

          starts : start_as st ≡ start_with s (length columns) slacks (map half_as hs) cs turned
          starts = step1

      at : (cs : List ℤ) → cost_row slacks (length hs) cs ≡ zs → (o : Option (List ℤ)) → option_map goal_of (option_and_then (each_of negate_exact) o) ≡ Some ws
          → Some (start_as st) ≡ option_and_then (λ sums. option_map (start_with s (length columns) slacks (map half_as hs) cs) (each_of negate_exact sums)) o
      at cs same_z None e = absurd (cc)
      at cs same_z (Some t) e = last (each_of negate_exact t) e
        where
          last : (o : Option (List ℤ)) → option_map goal_of o ≡ Some ws → Some (start_as st) ≡ option_map (start_with s (length columns) slacks (map half_as hs) cs) o
          last None f = absurd (cc)
          last (Some turned) f = ap Some (start_same cs turned same_z (same_Some (goal_of turned) ws f))

      by : (o : Option (List ℤ)) → option_map (cost_row slacks (length hs)) o ≡ Some zs
          → Some (start_as st) ≡ option_and_then (λ costs. option_and_then (λ sums. option_map (start_with s (length columns) slacks (map half_as hs) costs) (each_of negate_exact sums)) (sum_of_rows (replicate (suc (length columns + slacks)) (pos 0)) (map (λ h. h.real ++ h.side ∷ []) (map half_as hs)))) o
      by None e = absurd (cc)
      by (Some cs) e =
          at cs (same_Some (cost_row slacks (length hs) cs) zs e) sums (sym is_w ∙ some_w)
          ∙ ap (option_and_then (λ sums. option_map (start_with s (length columns) slacks (map half_as hs) cs) (each_of negate_exact sums))) sums_same

-- The start of all.
module _ (s : System) (columns : List (List ℕ)) (slacks : ℕ) (is_slacks : slacks ≡ length s.loops + length s.limits) where
  slacks_same : slacks ≡ count_slacks (lines_of s)
  slacks_same = is_slacks ∙ sym (slacks_are s)

  pub starting_fails : None ≡ halves s columns slacks 0 (lines_of s) → None ≡ starting s columns
  starting_fails none =
      let here : halves s columns (count_slacks (lines_of s)) 0 (lines_of s) ≡ None = ap (λ n. halves s columns n 0 (lines_of s)) (sym slacks_same) ∙ sym none in
      sym (ap (option_and_then (start_from s columns (count_slacks (lines_of s)))) here)

  pub starting_goes : (hs : List HalfRow) → Some (map half_as hs) ≡ halves s columns slacks 0 (lines_of s) → start_from s columns slacks (map half_as hs) ≡ starting s columns
  starting_goes hs some =
      let here : halves s columns (count_slacks (lines_of s)) 0 (lines_of s) ≡ Some (map half_as hs) = ap (λ n. halves s columns n 0 (lines_of s)) (sym slacks_same) ∙ sym some in
      ap (λ n. start_from s columns n (map half_as hs)) slacks_same ∙ sym (ap (option_and_then (start_from s columns (count_slacks (lines_of s)))) here)

  pub rows_made : (hs : List HalfRow) → Some (map half_as hs) ≡ halves s columns slacks 0 (lines_of s) → length hs ≡ length (lines_of s)
  rows_made hs some = sym (length-map hs half_as) ∙ halves_count s columns slacks 0 (lines_of s) (map half_as hs) (halves_are s columns slacks 0 (lines_of s) (map half_as hs) (sym some))

  pub rows_wide : (hs : List HalfRow) → Some (map half_as hs) ≡ halves s columns slacks 0 (lines_of s) → All (λ h. length h.real.items ≡ length columns + slacks) hs
  rows_wide hs some k d within =
      let are = halves_are s columns slacks 0 (lines_of s) (map half_as hs) (sym some) in
      sym (ap (λ (h : Half). length h.real) (get_or-map half_as hs k d (half_as d) within)) ∙ (half_at s columns slacks 0 (lines_of s) (map half_as hs) k (half_as d) are (omega (arith, within, length-map hs half_as))).0
