-- Rows that are driven out of the basis between the phases keep their solutions, and so does the whole machine.
use Rattle.std.proofs.Common.{◌≡◌, ℕ, zero, suc, ◌+◌, ◌-◌, ◌<◌, ◌≤◌, ℤ, pos, negsuc, ◌+ℤ◌, ◌-ℤ◌, ◌*ℤ◌, neg_ℤ, Bool, true, false, not, if◌then◌else◌, List, [], ◌∷◌, get_or, set, take, length, Option, None, Some, option_and_then, option_map, refl, sym, ap, ap₂, subst, ◌∙◌, arith}
use Rattle.std.specs.List.{AllByRecursion}
use Rattle.std.specs.Option.{IfSome}
use Rattle.std.proofs.lemmas.Int.{ints}
use Rattle.std.proofs.lemmas.List.{get_or-set_same, get_or-take, length-set, length-take}
use Rattle.std.proofs.lemmas.Option.{same_Some}
use Rattle.wc_base.proofs.Products.{times_neg}
use Rattle.wc_model.specs.Flow.Exact.{each_of, exact, negate_exact}
use Rattle.wc_model.specs.Flow.RowMachine.{Shape, Tableau, after_pivot, cell, driven, driven_at, entry, is_negative, is_positive, is_real, is_zero, pivoted, place_from, reached, turned, with_row}
use Rattle.wc_simplex.specs.Solutions.{AllZero, KeepsSolutions, weighs}
use Rattle.wc_simplex.proofs.ExactLemmas.{kept_is}
use Rattle.wc_simplex.specs.Inner.Reached.{HaveWidth}
use Rattle.wc_simplex.proofs.KeepingLemmas.{Keeps, pivot_keeps_rows}
use Rattle.wc_simplex.proofs.SolutionLemmas.{others_length, pivot_rows, solutions_refl, solutions_trans}

pub record NegatedParts (x : ℤ) (xs new : List ℤ) : Type 0 where
  pub tail : List ℤ
  pub later : each_of negate_exact xs ≡ Some tail
  pub whole : new ≡ neg_ℤ x ∷ tail

pub negated_parts : (x : ℤ) (xs new : List ℤ) → each_of negate_exact (x ∷ xs) ≡ Some new → NegatedParts x xs new
negated_parts x xs new is = by (negate_exact x) refl (each_of negate_exact xs) refl is
  where
    less : (v : ℤ) → (pos 0 -ℤ x ≡ v) → v ≡ neg_ℤ x
    less v e = omega (arith, ints, e)

    by : (o : Option ℤ) → negate_exact x ≡ o → (l : Option (List ℤ)) → each_of negate_exact xs ≡ l
        → option_and_then (λ y. option_map (λ ys. y ∷ ys) l) o ≡ Some new → NegatedParts x xs new
    by None p l q e = absurd (cc)
    by (Some y) p None q e = absurd (cc)
    by (Some y) p (Some ys) q e =
        record { tail = ys; later = q; whole = sym (same_Some (y ∷ ys) new e) ∙ ap (λ z. z ∷ ys) (less y (kept_is (pos 0 -ℤ x) y p).0) }

pub negated_weighs : (c : ℕ → ℤ) (k : ℕ) (row new : List ℤ) → each_of negate_exact row ≡ Some new → weighs c k new ≡ neg_ℤ (weighs c k row)
negated_weighs c k [] new is = ap (weighs c k) (sym (same_Some [] new is))
negated_weighs c k (x ∷ xs) new is =
    let parts = negated_parts x xs new is in
    ap (weighs c k) parts.whole ∙ omega (arith, ints, times_neg (c k) x, negated_weighs c (suc k) xs parts.tail parts.later)

pub negated_width : (row new : List ℤ) → each_of negate_exact row ≡ Some new → length new ≡ length row
negated_width [] new is = ap length (sym (same_Some [] new is))
negated_width (x ∷ xs) new is =
    let parts = negated_parts x xs new is in
    ap length parts.whole ∙ ap suc (negated_width xs parts.tail parts.later)

pub negated_entry : (row new : List ℤ) (j : ℕ) → each_of negate_exact row ≡ Some new → entry new j ≡ neg_ℤ (entry row j)
negated_entry [] new j is = ap (λ r. entry r j) (sym (same_Some [] new is))
negated_entry (x ∷ xs) new zero is = ap (λ r. entry r 0) (negated_parts x xs new is).whole
negated_entry (x ∷ xs) new (suc j) is =
    let parts = negated_parts x xs new is in
    ap (λ r. entry r (suc j)) parts.whole ∙ negated_entry xs parts.tail j parts.later

set_zero : (f : List ℤ → ℤ) (rows : List (List ℤ)) (i : ℕ) (new : List ℤ) → (f (get_or rows i []) ≡ pos 0 → f new ≡ pos 0) → AllZero f rows → AllZero f (set rows i new)
set_zero f [] i new same zeros = tt
set_zero f (row ∷ rows) zero new same zeros = (same zeros.0, zeros.1)
set_zero f (row ∷ rows) (suc i) new same zeros = (zeros.0, set_zero f rows i new same zeros.1)

zero_set : (f : List ℤ → ℤ) (rows : List (List ℤ)) (i : ℕ) (new : List ℤ) → (f new ≡ pos 0 → f (get_or rows i []) ≡ pos 0) → AllZero f (set rows i new) → AllZero f rows
zero_set f [] i new same zeros = tt
zero_set f (row ∷ rows) zero new same zeros = (same zeros.0, zeros.1)
zero_set f (row ∷ rows) (suc i) new same zeros = (zeros.0, zero_set f rows i new same zeros.1)

pub set_wide : (width : ℕ) (rows : List (List ℤ)) (i : ℕ) (new : List ℤ) → HaveWidth width rows → length new ≡ length (get_or rows i []) → HaveWidth width (set rows i new)
set_wide width [] i new all same = tt
set_wide width (row ∷ rows) zero new all same = (same ∙ all.0, all.1)
set_wide width (row ∷ rows) (suc i) new all same = (all.0, set_wide width rows i new all.1 same)

-- a row that is turned
record Turns (width i j : ℕ) (t u : Tableau) : Type 0 where
  pub keeps : Keeps width t.rows u.rows
  pub above : is_positive (cell u i j) ≡ true
  pub count : length u.rows ≡ length t.rows

neither : (x : ℤ) → is_negative x ≡ false → not (is_zero x) ≡ true → is_positive x ≡ true
neither (pos zero) a b = absurd (cc)
neither (pos (suc n)) a b = refl
neither (negsuc n) a b = absurd (cc)

turned_over : (x : ℤ) → is_negative x ≡ true → is_positive (neg_ℤ x) ≡ true
turned_over (pos n) is = absurd (cc)
turned_over (negsuc n) is = refl

none_of : (y z : ℤ) → y ≡ neg_ℤ z → z ≡ pos 0 → y ≡ pos 0
none_of y z is none = is ∙ ap neg_ℤ none

none_back : (y z : ℤ) → y ≡ neg_ℤ z → y ≡ pos 0 → z ≡ pos 0
none_back y z is none = omega (arith, ints, is, none)

turns : (width i j : ℕ) (t u : Tableau) → HaveWidth width t.rows → i < length t.rows → not (is_zero (cell t i j)) ≡ true → turned i j t ≡ Some u → Turns width i j t u
turns width i j t u all within some is = by (is_negative (cell t i j)) refl (each_of negate_exact (get_or t.rows i [])) refl is
  where
    by : (b : Bool) → is_negative (cell t i j) ≡ b → (o : Option (List ℤ)) → each_of negate_exact (get_or t.rows i []) ≡ o
        → (if b then option_map (with_row t i) o else Some t) ≡ Some u → Turns width i j t u
    by true below None p e = absurd (cc)
    by true below (Some new) p e =
        let same : set t.rows i new ≡ u.rows = ap (λ (x : Tableau). x.rows) (same_Some (with_row t i new) u e) in
        record {
          keeps =
              subst (λ (rows : List (List ℤ)). Keeps width t.rows rows) same
              (record {
                solutions =
                    record {
                      after = λ c zeros. set_zero (weighs c 0) t.rows i new (none_of (weighs c 0 new) (weighs c 0 (get_or t.rows i [])) (negated_weighs c 0 (get_or t.rows i []) new p)) zeros;
                      before = λ c zeros. zero_set (weighs c 0) t.rows i new (none_back (weighs c 0 new) (weighs c 0 (get_or t.rows i [])) (negated_weighs c 0 (get_or t.rows i []) new p)) zeros;
                    };
                wide = set_wide width t.rows i new all (negated_width (get_or t.rows i []) new p);
              });
          above =
              ap (λ (rows : List (List ℤ)). is_positive (entry (get_or rows i []) j)) (sym same)
              ∙ (ap (λ r. is_positive (entry r j)) (get_or-set_same t.rows i new [] within) ∙ ap is_positive (negated_entry (get_or t.rows i []) new j p) ∙ turned_over (cell t i j) below);
          count = ap length (sym same) ∙ length-set t.rows i new;
        }
    by false above o p e =
        let same : t ≡ u = same_Some t u e in
        subst (λ (x : Tableau). Turns width i j t x) same
        (record { keeps = record { solutions = solutions_refl t.rows; wide = all }; above = neither (cell t i j) above some; count = refl })

-- the entry at the place that is found passes the test
pub found_passes : (test : ℤ → Bool) (i : ℕ) (xs : List ℤ) (j : ℕ) → place_from test i xs ≡ Some j → (i ≤ j) × (test (get_or xs (j - i) (pos 0)) ≡ true) × (j < i + length xs)
found_passes test i [] j is = absurd (cc)
found_passes test i (x ∷ xs) j is = by (test x) refl (λ e. found_passes test (i + 1) xs j e) is
  where
    by : (b : Bool) → test x ≡ b → (place_from test (i + 1) xs ≡ Some j → (i + 1 ≤ j) × (test (get_or xs (j - (i + 1)) (pos 0)) ≡ true) × (j < i + 1 + length xs))
        → (if b then Some i else place_from test (i + 1) xs) ≡ Some j → (i ≤ j) × (test (get_or (x ∷ xs) (j - i) (pos 0)) ≡ true) × (j < i + suc (length xs))
    by true passes go e =
        let same : i ≡ j = same_Some i j e in
        let none_left : j - i ≡ 0 = omega (arith, same) in
        (omega (arith, same), ap (λ n. test (get_or (x ∷ xs) n (pos 0))) none_left ∙ passes, omega (arith, same))
    by false passes go e =
        let rest = go e in
        let more : j - i ≡ suc (j - (i + 1)) = omega (arith, rest.0) in
        (omega (arith, rest.0), ap (λ n. test (get_or (x ∷ xs) n (pos 0))) more ∙ rest.1, omega (arith, rest.2))

nonzero_there : (shape : Shape) (row : List ℤ) (j : ℕ) → place_from (λ x. not (is_zero x)) 0 (take shape.real row) ≡ Some j → not (is_zero (entry row j)) ≡ true
nonzero_there shape row j is =
    let found = found_passes (λ x. not (is_zero x)) 0 (take shape.real row) j is in
    let same : j - 0 ≡ j = omega arith in
    let within : j < shape.real = omega (arith, found.2, length-take shape.real row) in
    ap (λ x. not (is_zero x)) (sym (get_or-take shape.real row j (pos 0) within)) ∙ ap (λ n. not (is_zero (get_or (take shape.real row) n (pos 0)))) (sym same) ∙ found.1

same_reached : (m n : ℕ) (t u : Tableau) → reached m t ≡ reached n u → t ≡ u
same_reached m n t u is = cc

-- what the later rows keep
abbrev GoesOn : ℕ → Shape → ℕ → ℕ → Tableau → List (List ℤ) → Type 0
GoesOn width shape i n u rows =
    (l : ℕ) (s : Tableau) → HaveWidth width s.rows → i + 1 + length rows ≡ length s.rows → driven shape l (i + 1) s rows ≡ reached n u → Keeps width s.rows u.rows

pub driven_keeps : (width : ℕ) (shape : Shape) (left i n : ℕ) (t u : Tableau) (rows : List (List ℤ)) → HaveWidth width t.rows → i + length rows ≡ length t.rows
    → driven shape left i t rows ≡ reached n u → Keeps width t.rows u.rows
unfolding driven
driven_keeps width shape left i n t u [] all count is =
    subst (λ (x : Tableau). Keeps width t.rows x.rows) (same_reached left n t u is) (record { solutions = solutions_refl t.rows; wide = all })
driven_keeps width shape left i n t u (row ∷ rows) all count is =
    by (is_real shape (get_or t.basis i 0)) (place_from (λ x. not (is_zero x)) 0 (take shape.real (get_or t.rows i []))) refl
    (λ l s ok same e. driven_keeps width shape l (i + 1) n s u rows ok same e) is
  where
    last : (l j : ℕ) (mid : Tableau) (q : Option Tableau) → pivoted i j mid ≡ q → Turns width i j t mid → GoesOn width shape i n u rows
        → after_pivot (λ s. driven shape l (i + 1) s rows) q ≡ reached n u → Keeps width t.rows u.rows
    last l j mid None r turn go e = absurd (cc)
    last l j mid (Some later) r turn go e =
        let made = pivot_keeps_rows width i j mid later turn.keeps.wide (omega (arith, count, turn.count)) turn.above r in
        let same = others_length i j (get_or mid.rows i []) 0 mid.rows later.rows (pivot_rows i j mid later r) in
        let rest = go l later made.wide (omega (arith, count, turn.count, same)) e in
        record {
          solutions = solutions_trans t.rows mid.rows u.rows turn.keeps.solutions (solutions_trans mid.rows later.rows u.rows made.solutions rest.solutions);
          wide = rest.wide;
        }

    pivot : (l j : ℕ) (o : Option Tableau) → turned i j t ≡ o → not (is_zero (cell t i j)) ≡ true → GoesOn width shape i n u rows
        → after_pivot (λ s. driven shape l (i + 1) s rows) (option_and_then (pivoted i j) o) ≡ reached n u → Keeps width t.rows u.rows
    pivot l j None p some go e = absurd (cc)
    pivot l j (Some mid) p some go e = last l j mid (pivoted i j mid) refl (turns width i j t mid all (omega (arith, count)) some p) go e

    at : (l : ℕ) (o : Option ℕ) → place_from (λ x. not (is_zero x)) 0 (take shape.real (get_or t.rows i [])) ≡ o → GoesOn width shape i n u rows
        → driven_at (λ m s. driven shape m (i + 1) s rows) l i t o ≡ reached n u → Keeps width t.rows u.rows
    at l None p go e = go l t all (omega (arith, count)) e
    at zero (Some j) p go e = absurd (cc)
    at (suc l) (Some j) p go e = pivot l j (turned i j t) refl (nonzero_there shape (get_or t.rows i []) j p) go e

    by : (b : Bool) (o : Option ℕ) → place_from (λ x. not (is_zero x)) 0 (take shape.real (get_or t.rows i [])) ≡ o → GoesOn width shape i n u rows
        → (if b then driven shape left (i + 1) t rows else driven_at (λ m s. driven shape m (i + 1) s rows) left i t o) ≡ reached n u → Keeps width t.rows u.rows
    by true o p go e = go left t all (omega (arith, count)) e
    by false o p go e = at left o p go e
