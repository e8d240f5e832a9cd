-- The tableau that the machine starts from.
use Rattle.std.proofs.Common.{◌≡◌, ℕ, zero, suc, ◌+◌, ◌-◌, ◌<◌, ◌≤◌, ◌==◌, ◌&&◌, nat_le, nat_lt, ℤ, pos, negsuc, ◌+ℤ◌, ◌-ℤ◌, ◌*ℤ◌, neg_ℤ, ◌≤ℤ◌, ◌<ℤ◌, Bool, true, false, if◌then◌else◌, List, [], ◌∷◌, ◌++◌, map, get_or, take, replicate, length, inl, inr, ◌⊎◌, Option, None, Some, option_and_then, option_map, refl, sym, ap, ap₂, subst, ◌∙◌, arith}
use Rattle.std.specs.List.{AllByRecursion, range_with_len}
use Rattle.std.proofs.Math.IntN.{*ℤ-zero}
use Rattle.std.proofs.lemmas.Bool.{cases_eq, eq-eqb, ne_eqb}
use Rattle.std.proofs.lemmas.Int.{ints}
use Rattle.std.proofs.lemmas.List.{append_assoc, get_or-append_right, get_or-map, get_or-replicate, get_or-take, get_or_append_left, get_or_past, length-append, length-map, length-replicate, length-take}
use Rattle.std.proofs.lemmas.List.FromFn.{get_or-range_with_len, length-range_with_len}
use Rattle.std.proofs.lemmas.Option.{same_Some}
use Rattle.wc_model.specs.declared.flow_system.System.{System}
use Rattle.wc_model.specs.Flow.Exact.{add_exact, add_rows, each_of, negate_exact}
use Rattle.wc_model.specs.Flow.RowMachine.{Shape, Tableau, cell, entry}
use Rattle.wc_model.specs.Flow.Tableaus.{Half, Line, Start, column_cost, count_slacks, goal_start, halves, lines_of, one_if, start_with, starting, sum_of_rows, unit_row, whole_row, whole_rows}
use Rattle.wc_simplex.specs.Inner.Reached.{AreAbove, Follows, HaveWidth, IsBasic, IsLinear, IsReached}
use Rattle.wc_simplex.specs.Solutions.{AllZero}
use Rattle.wc_simplex.proofs.ExactLemmas.{kept_is}
use Rattle.wc_simplex.proofs.PivotLemmas.{zero_each}
use Rattle.wc_simplex.proofs.StartLemmas.{AreHalves, each_length, half_at, halves_are, halves_count}
use Rattle.wc_simplex.proofs.TurningLemmas.{negated_entry, negated_width}

-- rows by their places
pub no_half : Half
no_half = record { real = []; side = pos 0; negated = false }

pub whole_at : (rows place k : ℕ) (hs : List Half) → k < length hs → get_or (whole_rows rows place hs) k [] ≡ whole_row rows (place + k) (get_or hs k no_half)
whole_at rows place k [] within = absurd (omega arith)
whole_at rows place zero (h ∷ hs) within =
    let here : place ≡ place + 0 = omega arith in
    ap (λ n. whole_row rows n h) here
whole_at rows place (suc k) (h ∷ hs) within =
    let more : suc place + k ≡ place + suc k = omega arith in
    whole_at rows (suc place) k hs (omega arith) ∙ ap (λ n. whole_row rows n (get_or hs k no_half)) more

pub whole_count : (rows place : ℕ) (hs : List Half) → length (whole_rows rows place hs) ≡ length hs
whole_count rows place [] = refl
whole_count rows place (h ∷ hs) = ap suc (whole_count rows (suc place) hs)

-- the parts of a row: real entries, a unit, the right side and the own coefficient
module _ (front middle : List ℤ) (a b : ℤ) (real right : ℕ) (wide : length front ≡ real) (ends : real + length middle ≡ right) where
  abbrev parted : List ℤ
  parted = front ++ middle ++ a ∷ b ∷ []

  parted_is : parted ≡ front ++ (middle ++ a ∷ b ∷ [])
  parted_is = append_assoc front middle (a ∷ b ∷ [])

  pub parted_wide : length parted ≡ right + 2
  parted_wide = omega (arith, length-append (front ++ middle) (a ∷ b ∷ []), length-append front middle, wide, ends)

  pub parted_real : (m : ℕ) → m < real → entry parted m ≡ entry front m
  parted_real m within = ap (λ l. entry l m) parted_is ∙ get_or_append_left front (middle ++ a ∷ b ∷ []) (pos 0) m (omega (arith, within, wide))

  pub parted_middle : (i : ℕ) → i < length middle → entry parted (real + i) ≡ entry middle i
  parted_middle i within =
      let at : real + i - real ≡ i = omega arith in
      ap (λ l. entry l (real + i)) parted_is ∙ get_or-append_right front (middle ++ a ∷ b ∷ []) real (real + i) (pos 0) wide (omega arith)
      ∙ ap (λ n. entry (middle ++ a ∷ b ∷ []) n) at ∙ get_or_append_left middle (a ∷ b ∷ []) (pos 0) i within

  whole_front : length (front ++ middle) ≡ right
  whole_front = length-append front middle ∙ ap (λ n. n + length middle) wide ∙ ends

  pub parted_side : entry parted right ≡ a
  parted_side =
      let at : right - right ≡ 0 = omega arith in
      get_or-append_right (front ++ middle) (a ∷ b ∷ []) right right (pos 0) whole_front (omega arith) ∙ ap (λ n. entry (a ∷ b ∷ []) n) at

  pub parted_own : entry parted (suc right) ≡ b
  parted_own =
      let at : suc right - right ≡ 1 = omega arith in
      get_or-append_right (front ++ middle) (a ∷ b ∷ []) right (suc right) (pos 0) whole_front (omega arith) ∙ ap (λ n. entry (a ∷ b ∷ []) n) at

unit_count : (n own : ℕ) → length (unit_row n own) ≡ n
unit_count n own = length-map (range_with_len 0 n) (λ k. one_if (k == own)) ∙ length-range_with_len 0 n

unit_at : (n own k : ℕ) → k < n → entry (unit_row n own) k ≡ one_if (k == own)
unit_at n own k within =
    let at : 0 + k ≡ k = omega arith in
    get_or-map (λ i. one_if (i == own)) (range_with_len 0 n) k 0 (pos 0) (omega (arith, within, length-range_with_len 0 n))
    ∙ ap (λ i. one_if (i == own)) (get_or-range_with_len 0 n k 0 within ∙ at)

-- the sum of a column
abbrev pub column_sum : List (List ℤ) → ℕ → ℤ
column_sum [] j = pos 0
column_sum (row ∷ rows) j = entry row j +ℤ column_sum rows j

-- 1 at the artificial columns
abbrev pub art : Shape → ℕ → ℤ
art shape m = if nat_le shape.real m && nat_lt m shape.right then pos 1 else pos 0

-- What is known of the first tableau.
pub record IsStart (shape : Shape) (count : ℕ) (t : Tableau) : Type 0 where
  pub right : shape.right ≡ shape.real + count
  pub counted : length t.rows ≡ count
  pub bases : length t.basis ≡ count
  pub basis : (k : ℕ) → k < count → get_or t.basis k 0 ≡ shape.real + k
  pub wide : HaveWidth (shape.right + 2) t.rows
  pub wide_z : length t.z ≡ shape.right + 2
  pub wide_w : length t.w ≡ shape.right + 2
  pub units : (i k : ℕ) → i < count → k < count → cell t i (shape.real + k) ≡ one_if (k == i)
  pub own : (i : ℕ) → i < count → cell t i (suc shape.right) ≡ pos 0
  pub own_z : entry t.z (suc shape.right) ≡ pos 1
  pub own_w : entry t.w (suc shape.right) ≡ pos 1
  pub arts_z : (k : ℕ) → k < count → entry t.z (shape.real + k) ≡ pos 0
  pub arts_w : (k : ℕ) → k < count → entry t.w (shape.real + k) ≡ pos 0
  pub side_z : entry t.z shape.right ≡ pos 0
  pub sides : (i : ℕ) → i < count → pos 0 ≤ℤ cell t i shape.right
  pub sums : (m : ℕ) → m < shape.real → entry t.w m ≡ neg_ℤ (column_sum t.rows m)
  pub sum_sides : entry t.w shape.right ≡ neg_ℤ (column_sum t.rows shape.right)

-- What it has to do with the system.
pub record IsStartOf (s : System) (columns : List (List ℕ)) (start : Start) : Type 0 where
  pub hs : List Half
  pub costs : List ℤ
  pub halves_is : AreHalves s columns (count_slacks (lines_of s)) 0 (lines_of s) hs
  pub rows : start.first.rows ≡ whole_rows (length hs) 0 hs
  pub costs_are : each_of (λ column. option_and_then negate_exact (column_cost s column)) columns ≡ Some costs
  pub z : start.first.z ≡ costs ++ replicate (count_slacks (lines_of s) + length hs) (pos 0) ++ pos 0 ∷ pos 1 ∷ []
  pub negated : start.negated ≡ map (λ h. h.negated) hs
  pub real : start.shape.real ≡ length columns + count_slacks (lines_of s)
  pub is : IsStart start.shape (length hs) start.first

-- sums of rows
added_parts : (x y : ℤ) (xs ys new : List ℤ) → add_rows (x ∷ xs) (y ∷ ys) ≡ Some new → (tail : List ℤ) × (add_rows xs ys ≡ Some tail) × (new ≡ (x +ℤ y) ∷ tail)
added_parts x y xs ys new is = by (add_exact x y) refl (add_rows xs ys) refl is
  where
    by : (o : Option ℤ) → add_exact x y ≡ o → (l : Option (List ℤ)) → add_rows xs ys ≡ l → option_and_then (λ z. option_map (λ zs. z ∷ zs) l) o ≡ Some new
        → (tail : List ℤ) × (add_rows xs ys ≡ Some tail) × (new ≡ (x +ℤ y) ∷ tail)
    by None p l q e = absurd (cc)
    by (Some z) p None q e = absurd (cc)
    by (Some z) p (Some zs) q e = (zs, q, sym (same_Some (z ∷ zs) new e) ∙ ap (λ v. v ∷ zs) (sym (kept_is (x +ℤ y) z p).0))

added_entry : (j : ℕ) (xs ys new : List ℤ) → length xs ≡ length ys → add_rows xs ys ≡ Some new → entry new j ≡ entry xs j +ℤ entry ys j
added_entry j [] [] new same is = ap (λ l. entry l j) (sym (same_Some [] new is))
added_entry j [] (y ∷ ys) new same is = absurd (omega arith)
added_entry j (x ∷ xs) [] new same is = absurd (omega arith)
added_entry zero (x ∷ xs) (y ∷ ys) new same is = ap (λ l. entry l 0) (added_parts x y xs ys new is).2
added_entry (suc j) (x ∷ xs) (y ∷ ys) new same is =
    let parts = added_parts x y xs ys new is in
    ap (λ l. entry l (suc j)) parts.2 ∙ added_entry j xs ys parts.0 (omega arith) parts.1

added_wide : (xs ys new : List ℤ) → length xs ≡ length ys → add_rows xs ys ≡ Some new → length new ≡ length xs
added_wide [] [] new same is = ap length (sym (same_Some [] new is))
added_wide [] (y ∷ ys) new same is = absurd (omega arith)
added_wide (x ∷ xs) [] new same is = absurd (omega arith)
added_wide (x ∷ xs) (y ∷ ys) new same is =
    let parts = added_parts x y xs ys new is in
    ap length parts.2 ∙ ap suc (added_wide xs ys parts.0 (omega arith) parts.1)

summed : (j width : ℕ) (acc : List ℤ) (rows : List (List ℤ)) (sums : List ℤ) → length acc ≡ width → HaveWidth width rows → sum_of_rows acc rows ≡ Some sums
    → (length sums ≡ width) × (entry sums j ≡ entry acc j +ℤ column_sum rows j)
summed j width acc [] sums wide all is =
    let same : acc ≡ sums = same_Some acc sums is in
    (ap length (sym same) ∙ wide, ap (λ l. entry l j) (sym same) ∙ sym (add_zero (entry acc j)))
  where
    add_zero : (z : ℤ) → z +ℤ pos 0 ≡ z
    add_zero z = omega (arith, ints)
summed j width acc (row ∷ rows) sums wide all is = by (add_rows acc row) refl (λ sum ok e. summed j width sum rows sums ok all.1 e) is
  where
    by : (o : Option (List ℤ)) → add_rows acc row ≡ o
        → ((sum : List ℤ) → length sum ≡ width → sum_of_rows sum rows ≡ Some sums → (length sums ≡ width) × (entry sums j ≡ entry sum j +ℤ column_sum rows j))
        → option_and_then (λ sum. sum_of_rows sum rows) o ≡ Some sums → (length sums ≡ width) × (entry sums j ≡ entry acc j +ℤ (entry row j +ℤ column_sum rows j))
    by None p go e = absurd (cc)
    by (Some sum) p go e =
        let same : length acc ≡ length row = wide ∙ sym all.0 in
        let rest = go sum (added_wide acc row sum same p ∙ wide) e in
        (rest.0, omega (arith, ints, rest.1, added_entry j acc row sum same p))

-- the lines that are summed have the rows' entries
abbrev line_half : Half → List ℤ
line_half h = h.real ++ h.side ∷ []

lines_wide : (real : ℕ) (hs : List Half) → ((k : ℕ) (d : Half) → k < length hs → length (get_or hs k d).real ≡ real) → HaveWidth (suc real) (map line_half hs)
lines_wide real [] wide = tt
lines_wide real (h ∷ hs) wide =
    (length-append h.real (h.side ∷ []) ∙ plus_one (length h.real) real (wide 0 no_half (omega arith)), lines_wide real hs (λ k d within. wide (suc k) d (omega (arith, within))))
  where
    plus_one : (m n : ℕ) → m ≡ n → m + 1 ≡ suc n
    plus_one m n same = omega (arith, same)

sums_real : (rows place real m : ℕ) (hs : List Half) → ((k : ℕ) (d : Half) → k < length hs → length (get_or hs k d).real ≡ real) → m < real
    → column_sum (map line_half hs) m ≡ column_sum (whole_rows rows place hs) m
sums_real rows place real m [] wide within = refl
sums_real rows place real m (h ∷ hs) wide within =
    let own : length h.real ≡ real = wide 0 no_half (omega arith) in
    ap₂ (λ x y. x +ℤ y)
    (get_or_append_left h.real (h.side ∷ []) (pos 0) m (omega (arith, within, own))
    ∙ sym (parted_real h.real (unit_row rows place) h.side (pos 0) real (real + length (unit_row rows place)) own refl m within))
    (sums_real rows (suc place) real m hs (λ k d few. wide (suc k) d (omega (arith, few))) within)

sums_side : (rows place real : ℕ) (hs : List Half) → ((k : ℕ) (d : Half) → k < length hs → length (get_or hs k d).real ≡ real)
    → column_sum (map line_half hs) real ≡ column_sum (whole_rows rows place hs) (real + rows)
sums_side rows place real [] wide = refl
sums_side rows place real (h ∷ hs) wide =
    let own : length h.real ≡ real = wide 0 no_half (omega arith) in
    let at : real - real ≡ 0 = omega arith in
    ap₂ (λ x y. x +ℤ y)
    (get_or-append_right h.real (h.side ∷ []) real real (pos 0) own (omega arith) ∙ ap (λ n. entry (h.side ∷ []) n) at
    ∙ sym (parted_side h.real (unit_row rows place) h.side (pos 0) real (real + rows) own (ap (λ n. real + n) (unit_count rows place))))
    (sums_side rows (suc place) real hs (λ k d few. wide (suc k) d (omega (arith, few))))

rows_wide : (rows place real : ℕ) (hs : List Half) → ((k : ℕ) (d : Half) → k < length hs → length (get_or hs k d).real ≡ real) → HaveWidth (real + rows + 2) (whole_rows rows place hs)
rows_wide rows place real [] wide = tt
rows_wide rows place real (h ∷ hs) wide = (
  parted_wide h.real (unit_row rows place) h.side (pos 0) real (real + rows) (wide 0 no_half (omega arith)) (ap (λ n. real + n) (unit_count rows place)),
  rows_wide rows (suc place) real hs (λ k d few. wide (suc k) d (omega (arith, few))),
)

turned_zero : (z y : ℤ) → z ≡ pos 0 +ℤ y → neg_ℤ z ≡ neg_ℤ y
turned_zero z y is = omega (arith, ints, is)

module _ (s : System) (columns : List (List ℕ)) (hs : List Half) (costs sums turned : List ℤ)
    (are : AreHalves s columns (count_slacks (lines_of s)) 0 (lines_of s) hs)
    (costs_are : each_of (λ column. option_and_then negate_exact (column_cost s column)) columns ≡ Some costs)
    (sums_are : sum_of_rows (replicate (suc (length columns + count_slacks (lines_of s))) (pos 0)) (map (λ h. h.real ++ h.side ∷ []) hs) ≡ Some sums)
    (turned_is : each_of negate_exact sums ≡ Some turned) where
  abbrev slacks : ℕ
  slacks = count_slacks (lines_of s)

  abbrev real : ℕ
  real = length columns + count_slacks (lines_of s)

  abbrev start : Start
  start = start_with s (length columns) (count_slacks (lines_of s)) hs costs turned

  wide : (k : ℕ) (d : Half) → k < length hs → length (get_or hs k d).real ≡ real
  wide k d within = (half_at s columns slacks 0 (lines_of s) hs k d are within).0

  row_at : (i : ℕ) → i < length hs → get_or (whole_rows (length hs) 0 hs) i [] ≡ whole_row (length hs) i (get_or hs i no_half)
  row_at i within =
      let none : 0 + i ≡ i = omega arith in
      whole_at (length hs) 0 i hs within ∙ ap (λ n. whole_row (length hs) n (get_or hs i no_half)) none

  sum_at : (j : ℕ) → (length sums ≡ suc real) × (entry sums j ≡ entry (replicate (suc real) (pos 0)) j +ℤ column_sum (map line_half hs) j)
  sum_at j = summed j (suc real) (replicate (suc real) (pos 0)) (map line_half hs) sums (length-replicate (suc real) (pos 0)) (lines_wide real hs wide) sums_are

  turned_wide : length turned ≡ suc real
  turned_wide = negated_width sums turned turned_is ∙ (sum_at 0).0

  turned_at : (j : ℕ) → j < suc real → entry turned j ≡ neg_ℤ (column_sum (map line_half hs) j)
  turned_at j within =
      negated_entry sums turned j turned_is
      ∙ turned_zero (entry sums j) (column_sum (map line_half hs) j) ((sum_at j).1 ∙ ap (λ z. z +ℤ column_sum (map line_half hs) j) (get_or-replicate (suc real) j (pos 0) (pos 0) within))

  costs_wide : length costs ≡ length columns
  costs_wide = each_length (λ column. option_and_then negate_exact (column_cost s column)) columns costs costs_are

  -- the goal rows in parts
  abbrev z_row : List ℤ
  z_row = costs ++ replicate (slacks + length hs) (pos 0) ++ pos 0 ∷ pos 1 ∷ []

  z_ends : length columns + length (replicate (slacks + length hs) (pos 0)) ≡ real + length hs
  z_ends = omega (arith, length-replicate (slacks + length hs) (pos 0))

  z_art : (k : ℕ) → k < length hs → entry z_row (real + k) ≡ pos 0
  z_art k within =
      let at : real + k ≡ length columns + (slacks + k) = omega arith in
      ap (λ n. entry z_row n) at
      ∙ parted_middle costs (replicate (slacks + length hs) (pos 0)) (pos 0) (pos 1) (length columns) (real + length hs) costs_wide z_ends (slacks + k)
      (omega (arith, within, length-replicate (slacks + length hs) (pos 0)))
      ∙ get_or-replicate (slacks + length hs) (slacks + k) (pos 0) (pos 0) (omega (arith, within))

  abbrev w_front : List ℤ
  w_front = take real turned

  abbrev w_parts : List ℤ
  w_parts = take real turned ++ replicate (length hs) (pos 0) ++ entry turned real ∷ pos 1 ∷ []

  w_is : goal_start (length hs) (take real turned) (entry turned real ∷ []) ≡ w_parts
  w_is = append_assoc (take real turned ++ replicate (length hs) (pos 0)) (entry turned real ∷ []) (pos 1 ∷ [])

  w_wide : length (take real turned) ≡ real
  w_wide = omega (arith, length-take real turned, turned_wide)

  w_ends : real + length (replicate (length hs) (pos 0)) ≡ real + length hs
  w_ends = ap (λ n. real + n) (length-replicate (length hs) (pos 0))

  pub begin_is : IsStart (start_with s (length columns) (count_slacks (lines_of s)) hs costs turned).shape (length hs) (start_with s (length columns) (count_slacks (lines_of s)) hs costs turned).first
  begin_is =
      record {
        right = refl;
        counted = whole_count (length hs) 0 hs;
        bases = length-range_with_len real (length hs);
        basis = λ k within. get_or-range_with_len real (length hs) k 0 within;
        wide = rows_wide (length hs) 0 real hs wide;
        wide_z = parted_wide costs (replicate (slacks + length hs) (pos 0)) (pos 0) (pos 1) (length columns) (real + length hs) costs_wide z_ends;
        wide_w = ap length w_is ∙ parted_wide (take real turned) (replicate (length hs) (pos 0)) (entry turned real) (pos 1) real (real + length hs) w_wide w_ends;
        units = λ i k within_i within_k.
            ap (λ row. entry row (real + k)) (row_at i within_i)
            ∙ parted_middle (get_or hs i no_half).real (unit_row (length hs) i) (get_or hs i no_half).side (pos 0) real (real + length hs) (wide i no_half within_i)
            (ap (λ n. real + n) (unit_count (length hs) i)) k (omega (arith, within_k, unit_count (length hs) i))
            ∙ unit_at (length hs) i k within_k;
        own = λ i within.
            ap (λ row. entry row (suc (real + length hs))) (row_at i within)
            ∙ parted_own (get_or hs i no_half).real (unit_row (length hs) i) (get_or hs i no_half).side (pos 0) real (real + length hs) (wide i no_half within)
            (ap (λ n. real + n) (unit_count (length hs) i));
        own_z = parted_own costs (replicate (slacks + length hs) (pos 0)) (pos 0) (pos 1) (length columns) (real + length hs) costs_wide z_ends;
        own_w = ap (λ l. entry l (suc (real + length hs))) w_is ∙ parted_own (take real turned) (replicate (length hs) (pos 0)) (entry turned real) (pos 1) real (real + length hs) w_wide w_ends;
        arts_z = z_art;
        arts_w = λ k within.
            ap (λ l. entry l (real + k)) w_is
            ∙ parted_middle (take real turned) (replicate (length hs) (pos 0)) (entry turned real) (pos 1) real (real + length hs) w_wide w_ends k (omega (arith, within, length-replicate (length hs) (pos 0)))
            ∙ get_or-replicate (length hs) k (pos 0) (pos 0) within;
        side_z = parted_side costs (replicate (slacks + length hs) (pos 0)) (pos 0) (pos 1) (length columns) (real + length hs) costs_wide z_ends;
        sides = λ i within.
            subst (λ (z : ℤ). pos 0 ≤ℤ z)
            (sym
            (ap (λ row. entry row (real + length hs)) (row_at i within)
            ∙ parted_side (get_or hs i no_half).real (unit_row (length hs) i) (get_or hs i no_half).side (pos 0) real (real + length hs) (wide i no_half within)
            (ap (λ n. real + n) (unit_count (length hs) i))))
            (half_at s columns slacks 0 (lines_of s) hs i no_half are within).1;
        sums = λ m within.
            ap (λ l. entry l m) w_is ∙ parted_real (take real turned) (replicate (length hs) (pos 0)) (entry turned real) (pos 1) real (real + length hs) w_wide w_ends m within
            ∙ get_or-take real turned m (pos 0) within ∙ turned_at m (omega (arith, within)) ∙ ap neg_ℤ (sums_real (length hs) 0 real m hs wide within);
        sum_sides =
            ap (λ l. entry l (real + length hs)) w_is ∙ parted_side (take real turned) (replicate (length hs) (pos 0)) (entry turned real) (pos 1) real (real + length hs) w_wide w_ends
            ∙ turned_at real (omega arith) ∙ ap neg_ℤ (sums_side (length hs) 0 real hs wide);
      }

  pub begin_of : IsStartOf s columns (start_with s (length columns) (count_slacks (lines_of s)) hs costs turned)
  begin_of =
      record {
        hs = hs;
        costs = costs;
        halves_is = are;
        rows = refl;
        costs_are = costs_are;
        z = refl;
        negated = refl;
        real = refl;
        is = begin_is;
      }

pub starting_is : (s : System) (columns : List (List ℕ)) (start : Start) → starting s columns ≡ Some start → IsStartOf s columns start
starting_is s columns start is =
    by (halves s columns (count_slacks (lines_of s)) 0 (lines_of s)) refl (each_of (λ column. option_and_then negate_exact (column_cost s column)) columns) refl is
  where
    last : (hs : List Half) → halves s columns (count_slacks (lines_of s)) 0 (lines_of s) ≡ Some hs → (costs : List ℤ) → each_of (λ column. option_and_then negate_exact (column_cost s column)) columns ≡ Some costs
        → (o : Option (List ℤ)) → sum_of_rows (replicate (suc (length columns + count_slacks (lines_of s))) (pos 0)) (map (λ h. h.real ++ h.side ∷ []) hs) ≡ o
        → option_and_then (λ sums. option_map (start_with s (length columns) (count_slacks (lines_of s)) hs costs) (each_of negate_exact sums)) o ≡ Some start → IsStartOf s columns start
    last hs p costs q None r e = absurd (cc)
    last hs p costs q (Some sums) r e = at (each_of negate_exact sums) refl e
      where
        at : (o : Option (List ℤ)) → each_of negate_exact sums ≡ o → option_map (start_with s (length columns) (count_slacks (lines_of s)) hs costs) o ≡ Some start → IsStartOf s columns start
        at None u f = absurd (cc)
        at (Some turned) u f =
            subst (λ (x : Start). IsStartOf s columns x) (same_Some (start_with s (length columns) (count_slacks (lines_of s)) hs costs turned) start f)
            (begin_of s columns hs costs sums turned (halves_are s columns (count_slacks (lines_of s)) 0 (lines_of s) hs p) q r u)

    by : (o : Option (List Half)) → halves s columns (count_slacks (lines_of s)) 0 (lines_of s) ≡ o → (c : Option (List ℤ)) → each_of (λ column. option_and_then negate_exact (column_cost s column)) columns ≡ c
        → option_and_then (λ hs. option_and_then (λ costs. option_and_then (λ sums. option_map (start_with s (length columns) (count_slacks (lines_of s)) hs costs) (each_of negate_exact sums)) (sum_of_rows (replicate (suc (length columns + count_slacks (lines_of s))) (pos 0)) (map (λ h. h.real ++ h.side ∷ []) hs))) c) o ≡ Some start
        → IsStartOf s columns start
    by None p c q e = absurd (cc)
    by (Some hs) p None q e = absurd (cc)
    by (Some hs) p (Some costs) q e = last hs p costs q (sum_of_rows (replicate (suc (length columns + count_slacks (lines_of s))) (pos 0)) (map (λ h. h.real ++ h.side ∷ []) hs)) refl e

-- The first tableau is reached.
pub start_reached : (shape : Shape) (count : ℕ) (t : Tableau) → IsStart shape count t → IsReached shape t t
start_reached shape count t is =
    record {
      basic =
          record {
            bases = is.bases ∙ sym is.counted;
            inside = λ k within. omega (arith, within, is.counted, is.basis k (omega (arith, within, is.counted)), is.right);
            apart = λ i k within_i within_k apart.
                ap (λ m. cell t i m) (is.basis k (omega (arith, within_k, is.counted))) ∙ is.units i k (omega (arith, within_i, is.counted)) (omega (arith, within_k, is.counted))
                ∙ ap one_if (ne_eqb k i (λ same. apart (sym same)));
            z_none = λ k within. ap (λ m. entry t.z m) (is.basis k (omega (arith, within, is.counted))) ∙ is.arts_z k (omega (arith, within, is.counted));
            w_none = λ k within. ap (λ m. entry t.w m) (is.basis k (omega (arith, within, is.counted))) ∙ is.arts_w k (omega (arith, within, is.counted));
            sides = λ k within. is.sides k (omega (arith, within, is.counted));
          };
      above = λ k within.
          let few : k < count = omega (arith, within, is.counted) in
          omega (arith, ints, ap (λ m. cell t k m) (is.basis k few), is.units k k few few, ap one_if (eq-eqb k k refl));
      follows =
          record {
            count = refl;
            wide = is.wide;
            wide_z = is.wide_z;
            wide_w = is.wide_w;
            after = λ f lf zeros. zeros;
            before = λ f lf zeros. zeros;
            z_after = λ f lf zeros none. none;
            w_after = λ f lf zeros none. none;
            own = zero_each (λ row. entry row (suc shape.right)) t.rows (λ k within. is.own k (omega (arith, within, is.counted)));
            own_z = omega (arith, ints, is.own_z);
            own_w = omega (arith, ints, is.own_w);
          };
    }
