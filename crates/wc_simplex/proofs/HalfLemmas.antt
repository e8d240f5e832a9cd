-- Rows as they are made.
use Rattle.std.proofs.Common.{◌≡◌, ℕ, suc, ◌+◌, ◌<◌, ◌≤◌, ℤ, pos, Bool, true, false, if◌then◌else◌, List, [], ◌∷◌, ◌++◌, map, drop, get_or, length, Option, None, Some, option_and_then, option_map, refl, sym, ap, ap₂, subst, ◌∙◌, append_assoc, arith}
use Rattle.std.specs.List.{All, range_with_len}
use Rattle.std.proofs.lemmas.Int.{to_z-of_z}
use Rattle.std.proofs.lemmas.List.{get_or-map}
use Rattle.std.proofs.lemmas.List.Elements.{All-head, All-tail}
use Rattle.std.proofs.lemmas.List.FromFn.{map-range_with_len_more}
use mir.Syntax.{w128}
use mir.Val.{SFits, of_z, to_z}
use Rattle.wc_model.specs.declared.flow_system.System.{System}
use Rattle.wc_model.specs.Flow.Exact.{each_of, sum_exact}
use Rattle.wc_model.specs.Flow.Tableaus.{Half, Line, column_entry, half_of, halves, slack_entries, step_entry}
use Rattle.wc_simplex.specs.declared.stated.StatedRow.{StatedRow}
use Rattle.wc_simplex.specs.Inner.Columns.{IsColumn}
use Rattle.wc_simplex.specs.Inner.Halves.{column_sum, half_as, row_half}
use Rattle.wc_simplex.specs.Inner.Lines.{IsLine}
use Rattle.wc_simplex.specs.Inner.Steps.{Leaves, behind}

-- one more entry is pushed behind others
pub pushed_range : (f : ℕ → ℤ) (front ys : List ℤ) (k : ℕ) (v : ℤ) → ys ≡ front ++ map f (range_with_len 0 k) → SFits w128 v → v ≡ f k
    → ys ++ to_z w128 (of_z w128 v) ∷ [] ≡ front ++ map f (range_with_len 0 (k + 1))
pushed_range f front ys k v is fits value =
    ap₂ (λ a b. a ++ b ∷ []) is (to_z-of_z w128 v fits ∙ value) ∙ append_assoc front (map f (range_with_len 0 k)) (f k ∷ [])
    ∙ ap (λ l. front ++ l) (sym (map-range_with_len_more f 0 k k (omega arith)))

-- a stated row's entries at the columns
sum_same : (f g : ℕ → ℤ) (n : ℕ) (column : List ℕ) (acc : ℤ) → ((i : ℕ) → i < n → f i ≡ g i) → All (λ i. i < n) column → map f column ≡ map g column
sum_same f g n [] acc same each = refl
sum_same f g n (i ∷ column) acc same each =
    ap₂ (λ x xs. x ∷ xs) (same i (All-head (λ k. k < n) i column each)) (sum_same f g n column acc same (All-tail (λ k. k < n) i column each))

entries_same : (s : System) (line : Line) (row : StatedRow) (columns : List (List ℕ)) → IsLine s line row → All (IsColumn (length s.steps)) columns
    → each_of (column_sum row.entries.items) columns ≡ each_of (column_entry s line) columns
entries_same s line row [] is each = refl
entries_same s line row (column ∷ columns) is each =
    ap₂ (λ (o : Option ℤ) l. option_and_then (λ y. option_map (λ ys. y ∷ ys) l) o)
    (ap (sum_exact (pos 0)) (sum_same (λ i. get_or row.entries.items i (pos 0)) (step_entry s line) (length s.steps) column (pos 0) is.entries (All-head (IsColumn (length s.steps)) column columns each).1))
    (entries_same s line row columns is (All-tail (IsColumn (length s.steps)) column columns each))

-- the half of a line
abbrev pub line_half : System → List (List ℕ) → ℕ → ℕ → Line → Option Half
line_half s columns slacks own line = option_and_then (λ entries. half_of line.side (entries ++ slack_entries slacks own line.slack)) (each_of (column_entry s line) columns)

pub half_same : (s : System) (line : Line) (row : StatedRow) (columns : List (List ℕ)) (slacks own : ℕ) → IsLine s line row → All (IsColumn (length s.steps)) columns
    → row_half columns slacks own row ≡ line_half s columns slacks own line
half_same s line row columns slacks own is each =
    ap₂ (λ (side : ℤ) (slack : Bool). option_and_then (λ entries. half_of side (entries ++ slack_entries slacks own slack)) (each_of (column_sum row.entries.items) columns)) is.side is.slack
    ∙ ap (option_and_then (λ entries. half_of line.side (entries ++ slack_entries slacks own line.slack))) (entries_same s line row columns is each)

pub halves_cons : (s : System) (columns : List (List ℕ)) (slacks own : ℕ) (line : Line) (lines : List Line)
    → halves s columns slacks own (line ∷ lines) ≡ option_and_then (λ h. option_map (λ hs. h ∷ hs) (halves s columns slacks (if line.slack then suc own else own) lines)) (line_half s columns slacks own line)
halves_cons s columns slacks own line lines = by (each_of (column_entry s line) columns)
  where
    by : (o : Option (List ℤ)) → option_and_then (λ entries. option_and_then (λ h. option_map (λ hs. h ∷ hs) (halves s columns slacks (if line.slack then suc own else own) lines)) (half_of line.side (entries ++ slack_entries slacks own line.slack))) o
        ≡ option_and_then (λ h. option_map (λ hs. h ∷ hs) (halves s columns slacks (if line.slack then suc own else own) lines)) (option_and_then (λ entries. half_of line.side (entries ++ slack_entries slacks own line.slack)) o)
    by None = refl
    by (Some entries) = refl
