-- The row that leaves has the least right side over its entry; where none leaves, no entry is above 0.
use Rattle.std.proofs.Common.{◌≡◌, ℕ, zero, suc, ◌+◌, ◌-◌, ◌<◌, ◌≤◌, nat_lt, ℤ, pos, negsuc, ◌*ℤ◌, ◌≤ℤ◌, ◌<ℤ◌, Bool, true, false, not, ◌&&◌, ◌||◌, if◌then◌else◌, List, [], ◌∷◌, get_or, take, drop, length, inl, inr, ◌⊎◌, Option, None, Some, option_and_then, option_map, refl, sym, ap, ap₂, subst, ◌∙◌, arith}
use Rattle.std.specs.Prelude.{int_lt, int_le}
use Rattle.std.proofs.Math.IntN.{*ℤ_comm}
use Rattle.std.proofs.lemmas.Bool.Decides.{nat_tests}
use Rattle.std.proofs.lemmas.Int.{ints}
use Rattle.std.proofs.lemmas.List.{get_or-take, length-take, length-drop}
use Rattle.std.proofs.lemmas.Option.{same_Some}
use Rattle.wc_base.proofs.Products.{cancel, exchange, monotone}
use Rattle.wc_model.specs.Flow.Exact.{exact}
use Rattle.wc_model.specs.Flow.RowMachine.{Choice, Shape, Tableau, beats, better, cell, choice, choice_at, choice_of, entering, entry, finished, is_negative, is_positive, leaving_from, no_row, pivots, place_from, too_wide}
use Rattle.wc_simplex.specs.Inner.Reached.{IsLeast}
use Rattle.wc_simplex.proofs.ExactLemmas.{kept_is}
use Rattle.wc_simplex.proofs.KeepingLemmas.{at_drop}
use Rattle.wc_simplex.proofs.StepLemmas.{above_is}
use Rattle.wc_simplex.proofs.TurningLemmas.{found_passes}

-- of the rows before `i`
abbrev pub BestTo : Shape → Tableau → ℕ → ℕ → Option ℕ → Type 0
BestTo shape t j i None = (k : ℕ) → k < i → pos 0 <ℤ cell t k j → ⊥
BestTo shape t j i (Some b) =
    (b < length t.rows) × (pos 0 <ℤ cell t b j)
    × ((k : ℕ) → k < i → pos 0 <ℤ cell t k j → (cell t k j *ℤ cell t b shape.right) ≤ℤ (cell t b j *ℤ cell t k shape.right))

positive_above : (x : ℤ) → is_positive x ≡ true → pos 0 <ℤ x
positive_above (pos zero) is = absurd (cc)
positive_above (pos (suc n)) is = omega (arith, ints)
positive_above (negsuc n) is = absurd (cc)

not_positive : (x : ℤ) → is_positive x ≡ false → pos 0 <ℤ x → ⊥
not_positive (pos zero) is above = absurd (omega (arith, ints, above))
not_positive (pos (suc n)) is above = absurd (cc)
not_positive (negsuc n) is above = absurd (omega (arith, ints, above))

-- two ratios in a row
across : (ck sk cb sb ci si : ℤ) → pos 0 <ℤ cb → pos 0 <ℤ ck → pos 0 <ℤ ci → (ck *ℤ sb) ≤ℤ (cb *ℤ sk) → (cb *ℤ si) ≤ℤ (ci *ℤ sb) → (ck *ℤ si) ≤ℤ (ci *ℤ sk)
across ck sk cb sb ci si above_b above_k above_i first second =
    let n = above_is cb above_b in
    let left = monotone ck (cb *ℤ si) (ci *ℤ sb) (omega (arith, ints, above_k)) second in
    let right = monotone ci (ck *ℤ sb) (cb *ℤ sk) (omega (arith, ints, above_i)) first in
    cancel n.0 (ck *ℤ si) (ci *ℤ sk)
    (subst (λ (b : ℤ). (b *ℤ (ck *ℤ si)) ≤ℤ (b *ℤ (ci *ℤ sk))) n.1
    (omega (arith, ints, left, right, exchange cb ck si, exchange ck ci sb, exchange cb ci sk)))

goes_before : (own best : ℤ) (less : Bool) → (int_lt own best || int_le own best && less) ≡ true → own ≤ℤ best
goes_before own best less is = by (int_lt own best) refl (int_le own best) refl is
  where
    by : (a : Bool) → int_lt own best ≡ a → (b : Bool) → int_le own best ≡ b → (a || b && less) ≡ true → own ≤ℤ best
    by true p b q e = grind (arith, ints)
    by false p true q e = grind (arith, ints)
    by false p false q e = absurd (cc)

stays_before : (own best : ℤ) (less : Bool) → (int_lt own best || int_le own best && less) ≡ false → best ≤ℤ own
stays_before own best less is = by (int_lt own best) refl is
  where
    by : (a : Bool) → int_lt own best ≡ a → (a || int_le own best && less) ≡ false → best ≤ℤ own
    by true p e = absurd (cc)
    by false p e = grind (arith, ints)

pub same_or_before : (k i : ℕ) → k < i + 1 → (k < i) ⊎ (k ≡ i)
same_or_before k i within = by (nat_lt k i) refl
  where
    by : (b : Bool) → nat_lt k i ≡ b → (k < i) ⊎ (k ≡ i)
    by true is = inl (grind (arith, nat_tests))
    by false is =
        let beyond : i ≤ k = grind (arith, nat_tests) in
        inr (omega (arith, within, beyond))

module _ (shape : Shape) (t : Tableau) (j : ℕ) where
  beaten_is : (i b : ℕ) (o : Bool) → beats shape t j i b ≡ Some o → ((o ≡ true) × ((cell t i shape.right *ℤ cell t b j) ≤ℤ (cell t b shape.right *ℤ cell t i j))) ⊎ ((o ≡ false) × ((cell t b shape.right *ℤ cell t i j) ≤ℤ (cell t i shape.right *ℤ cell t b j)))
  beaten_is i b o is = by (exact (cell t i shape.right *ℤ cell t b j)) refl (exact (cell t b shape.right *ℤ cell t i j)) refl is
    where
      test : (own best : ℤ) → Bool
      test own best = int_lt own best || int_le own best && nat_lt (get_or t.basis i 0) (get_or t.basis b 0)

      at : (own best : ℤ) → cell t i shape.right *ℤ cell t b j ≡ own → cell t b shape.right *ℤ cell t i j ≡ best → (c : Bool) → (int_lt own best || int_le own best && nat_lt (get_or t.basis i 0) (get_or t.basis b 0)) ≡ c → c ≡ o
          → ((o ≡ true) × ((cell t i shape.right *ℤ cell t b j) ≤ℤ (cell t b shape.right *ℤ cell t i j))) ⊎ ((o ≡ false) × ((cell t b shape.right *ℤ cell t i j) ≤ℤ (cell t i shape.right *ℤ cell t b j)))
      at own best p q true e same = inl (sym same, omega (arith, ints, p, q, goes_before own best (nat_lt (get_or t.basis i 0) (get_or t.basis b 0)) e))
      at own best p q false e same = inr (sym same, omega (arith, ints, p, q, stays_before own best (nat_lt (get_or t.basis i 0) (get_or t.basis b 0)) e))

      by : (l : Option ℤ) → exact (cell t i shape.right *ℤ cell t b j) ≡ l → (r : Option ℤ) → exact (cell t b shape.right *ℤ cell t i j) ≡ r
          → option_and_then (λ own. option_map (λ best. int_lt own best || int_le own best && nat_lt (get_or t.basis i 0) (get_or t.basis b 0)) r) l ≡ Some o
          → ((o ≡ true) × ((cell t i shape.right *ℤ cell t b j) ≤ℤ (cell t b shape.right *ℤ cell t i j))) ⊎ ((o ≡ false) × ((cell t b shape.right *ℤ cell t i j) ≤ℤ (cell t i shape.right *ℤ cell t b j)))
      by None p r q e = absurd (cc)
      by (Some own) p None q e = absurd (cc)
      by (Some own) p (Some best) q e =
          at own best (kept_is (cell t i shape.right *ℤ cell t b j) own p).0 (kept_is (cell t b shape.right *ℤ cell t i j) best q).0
          (int_lt own best || int_le own best && nat_lt (get_or t.basis i 0) (get_or t.basis b 0)) refl
          (same_Some (int_lt own best || int_le own best && nat_lt (get_or t.basis i 0) (get_or t.basis b 0)) o e)

  better_best : (i : ℕ) (best now : Option ℕ) → i < length t.rows → pos 0 <ℤ cell t i j → BestTo shape t j i best → better shape t j best i ≡ Some now → BestTo shape t j (i + 1) now
  better_best i None now within above none is =
      subst (λ (o : Option ℕ). BestTo shape t j (i + 1) o) (same_Some (Some i) now is) (within, above, λ k before above_k. by k above_k (same_or_before k i before))
    where
      by : (k : ℕ) → pos 0 <ℤ cell t k j → (k < i) ⊎ (k ≡ i) → (cell t k j *ℤ cell t i shape.right) ≤ℤ (cell t i j *ℤ cell t k shape.right)
      by k above_k (inl earlier) = absurd (none k earlier above_k)
      by k above_k (inr same) = subst (λ (n : ℕ). (cell t n j *ℤ cell t i shape.right) ≤ℤ (cell t i j *ℤ cell t n shape.right)) (sym same) (omega (arith, ints))
  better_best i (Some b) now within above old is = by (beats shape t j i b) refl is
    where
      turn : (x y : ℤ) → x *ℤ y ≡ y *ℤ x
      turn x y = *ℤ_comm x y

      wins : (cell t i shape.right *ℤ cell t b j) ≤ℤ (cell t b shape.right *ℤ cell t i j) → (k : ℕ) → pos 0 <ℤ cell t k j → (k < i) ⊎ (k ≡ i) → (cell t k j *ℤ cell t i shape.right) ≤ℤ (cell t i j *ℤ cell t k shape.right)
      wins less k above_k (inl earlier) =
          across (cell t k j) (cell t k shape.right) (cell t b j) (cell t b shape.right) (cell t i j) (cell t i shape.right) old.1 above_k above (old.2 k earlier above_k)
          (omega (arith, ints, less, turn (cell t i shape.right) (cell t b j), turn (cell t b shape.right) (cell t i j)))
      wins less k above_k (inr same) = subst (λ (n : ℕ). (cell t n j *ℤ cell t i shape.right) ≤ℤ (cell t i j *ℤ cell t n shape.right)) (sym same) (omega (arith, ints))

      keeps : (cell t b shape.right *ℤ cell t i j) ≤ℤ (cell t i shape.right *ℤ cell t b j) → (k : ℕ) → pos 0 <ℤ cell t k j → (k < i) ⊎ (k ≡ i) → (cell t k j *ℤ cell t b shape.right) ≤ℤ (cell t b j *ℤ cell t k shape.right)
      keeps less k above_k (inl earlier) = old.2 k earlier above_k
      keeps less k above_k (inr same) =
          subst (λ (n : ℕ). (cell t n j *ℤ cell t b shape.right) ≤ℤ (cell t b j *ℤ cell t n shape.right)) (sym same)
          (omega (arith, ints, less, turn (cell t b shape.right) (cell t i j), turn (cell t i shape.right) (cell t b j)))

      at : (o : Bool) → ((o ≡ true) × ((cell t i shape.right *ℤ cell t b j) ≤ℤ (cell t b shape.right *ℤ cell t i j))) ⊎ ((o ≡ false) × ((cell t b shape.right *ℤ cell t i j) ≤ℤ (cell t i shape.right *ℤ cell t b j)))
          → Some (if o then Some i else Some b) ≡ Some now → BestTo shape t j (i + 1) now
      at true (inl less) e =
          subst (λ (p : Option ℕ). BestTo shape t j (i + 1) p) (same_Some (Some i) now e) (within, above, λ k before above_k. wins less.1 k above_k (same_or_before k i before))
      at true (inr less) e = absurd (cc)
      at false (inl less) e = absurd (cc)
      at false (inr less) e =
          subst (λ (p : Option ℕ). BestTo shape t j (i + 1) p) (same_Some (Some b) now e) (old.0, old.1, λ k before above_k. keeps less.1 k above_k (same_or_before k i before))

      by : (o : Option Bool) → beats shape t j i b ≡ o → option_map (λ beaten. if beaten then Some i else Some b) o ≡ Some now → BestTo shape t j (i + 1) now
      by None p e = absurd (cc)
      by (Some o) p e = at o (beaten_is i b o p) e

  fewer : (i n : ℕ) (o : Option ℕ) → n ≤ i → BestTo shape t j i o → BestTo shape t j n o
  fewer i n None few none = λ k within above. none k (omega (arith, within, few)) above
  fewer i n (Some b) few best = (best.0, best.1, λ k within above. best.2 k (omega (arith, within, few)) above)

  flat_best : (i : ℕ) (best : Option ℕ) → (pos 0 <ℤ cell t i j → ⊥) → BestTo shape t j i best → BestTo shape t j (i + 1) best
  flat_best i None flat none = λ k within above. by k above (same_or_before k i within)
    where
      by : (k : ℕ) → pos 0 <ℤ cell t k j → (k < i) ⊎ (k ≡ i) → ⊥
      by k above (inl earlier) = none k earlier above
      by k above (inr same) = flat (subst (λ (n : ℕ). pos 0 <ℤ cell t n j) same above)
  flat_best i (Some b) flat best = (best.0, best.1, λ k within above. by k above (same_or_before k i within))
    where
      by : (k : ℕ) → pos 0 <ℤ cell t k j → (k < i) ⊎ (k ≡ i) → (cell t k j *ℤ cell t b shape.right) ≤ℤ (cell t b j *ℤ cell t k shape.right)
      by k above (inl earlier) = best.2 k earlier above
      by k above (inr same) = absurd (flat (subst (λ (n : ℕ). pos 0 <ℤ cell t n j) same above))

  past : (i : ℕ) → drop i t.rows ≡ [] → length t.rows ≤ i
  past i is = omega (arith, length-drop i t.rows, ap length is)

  leaving_best : (i : ℕ) (best o : Option ℕ) (later : List (List ℤ)) → drop i t.rows ≡ later → BestTo shape t j i best → leaving_from shape t j i best later ≡ Some o → BestTo shape t j (length t.rows) o
  leaving_best i best o [] at found is = fewer i (length t.rows) o (past i at) (subst (λ (p : Option ℕ). BestTo shape t j i p) (same_Some best o is) found)
  leaving_best i best o (row ∷ rows) at found is =
      by (is_positive (entry row j)) refl (better shape t j best i) refl (λ now ok e. leaving_best (i + 1) now o rows next ok e) is
    where
      here : (i < length t.rows) × (get_or t.rows i [] ≡ row) × (drop (suc i) t.rows ≡ rows)
      here = at_drop t.rows i row rows at

      next : drop (i + 1) t.rows ≡ rows
      next = let one : i + 1 ≡ suc i = omega arith in ap (λ n. drop n t.rows) one ∙ here.2

      by : (b : Bool) → is_positive (entry row j) ≡ b → (p : Option (Option ℕ)) → better shape t j best i ≡ p
          → ((now : Option ℕ) → BestTo shape t j (i + 1) now → leaving_from shape t j (i + 1) now rows ≡ Some o → BestTo shape t j (length t.rows) o)
          → option_and_then (λ now. leaving_from shape t j (i + 1) now rows) (if b then p else Some best) ≡ Some o → BestTo shape t j (length t.rows) o
      by true above None p go e = absurd (cc)
      by true above (Some now) p go e =
          go now (better_best i best now here.0 (positive_above (cell t i j) (ap (λ x. is_positive (entry x j)) here.1 ∙ above)) found p) e
      by false above p q go e = go best (flat_best i best (not_positive (cell t i j) (ap (λ x. is_positive (entry x j)) here.1 ∙ above)) found) e

-- the entering column
pub negative_below : (x : ℤ) → is_negative x ≡ true → x <ℤ pos 0
negative_below (pos n) is = absurd (cc)
negative_below (negsuc n) is = omega (arith, ints)

pub not_negative : (x : ℤ) → is_negative x ≡ false → pos 0 ≤ℤ x
not_negative (pos n) is = omega (arith, ints)
not_negative (negsuc n) is = absurd (cc)

pub entering_below : (shape : Shape) (goal : List ℤ) (j : ℕ) → entering shape goal ≡ Some j → (j < shape.real) × (entry goal j <ℤ pos 0)
entering_below shape goal j is =
    let found = found_passes is_negative 0 (take shape.real goal) j is in
    let same : j - 0 ≡ j = omega arith in
    let within : j < shape.real = omega (arith, found.2, length-take shape.real goal) in (
      within,
      negative_below (entry goal j) (ap is_negative (sym (get_or-take shape.real goal j (pos 0) within)) ∙ ap (λ n. is_negative (get_or (take shape.real goal) n (pos 0))) (sym same) ∙ found.1),
    )

none_passes : (i : ℕ) (xs : List ℤ) (k : ℕ) → place_from is_negative i xs ≡ None → pos 0 ≤ℤ get_or xs k (pos 0)
none_passes i [] k is = omega (arith, ints)
none_passes i (x ∷ xs) k is = by (is_negative x) refl is k (λ m e. none_passes (i + 1) xs m e)
  where
    by : (b : Bool) → is_negative x ≡ b → (if b then Some i else place_from is_negative (i + 1) xs) ≡ None → (m : ℕ)
        → ((n : ℕ) → place_from is_negative (i + 1) xs ≡ None → pos 0 ≤ℤ get_or xs n (pos 0)) → pos 0 ≤ℤ get_or (x ∷ xs) m (pos 0)
    by true p e m go = absurd (cc)
    by false p e zero go = not_negative x p
    by false p e (suc m) go = go m e

pub entering_none : (shape : Shape) (goal : List ℤ) → entering shape goal ≡ None → (j : ℕ) → j < shape.real → pos 0 ≤ℤ entry goal j
entering_none shape goal is j within = subst (λ (z : ℤ). pos 0 ≤ℤ z) (get_or-take shape.real goal j (pos 0) within) (none_passes 0 (take shape.real goal) j is)

-- what a choice says
pub record IsPivotOf (shape : Shape) (goal : List ℤ) (t : Tableau) (r j : ℕ) : Type 0 where
  pub real : j < shape.real
  pub below : entry goal j <ℤ pos 0
  pub there : r < length t.rows
  pub above : pos 0 <ℤ cell t r j
  pub least : IsLeast shape t r j

pub record IsFlat (shape : Shape) (goal : List ℤ) (t : Tableau) (j : ℕ) : Type 0 where
  pub real : j < shape.real
  pub below : entry goal j <ℤ pos 0
  pub flat : (k : ℕ) → k < length t.rows → pos 0 <ℤ cell t k j → ⊥

module _ (shape : Shape) (goal : List ℤ) (t : Tableau) where
  pub chosen_pivot : (r j : ℕ) → choice shape goal t ≡ pivots r j → IsPivotOf shape goal t r j
  chosen_pivot r j is = by (entering shape goal) refl is
    where
      at : (k : ℕ) → entering shape goal ≡ Some k → (o : Option (Option ℕ)) → leaving_from shape t k 0 None t.rows ≡ o → choice_at k o ≡ pivots r j → IsPivotOf shape goal t r j
      at k enters None p e = absurd (cc)
      at k enters (Some None) p e = absurd (cc)
      at k enters (Some (Some q)) p e =
          let row : q ≡ r = cc in
          let column : k ≡ j = cc in
          let low = entering_below shape goal k enters in
          let best = leaving_best shape t k 0 None (Some q) t.rows refl (λ m few. absurd (omega (arith, few))) p in
          subst (λ n. IsPivotOf shape goal t n j) row
          (subst (λ n. IsPivotOf shape goal t q n) column (record { real = low.0; below = low.1; there = best.0; above = best.1; least = best.2 }))

      by : (o : Option ℕ) → entering shape goal ≡ o → choice_of shape t o ≡ pivots r j → IsPivotOf shape goal t r j
      by None p e = absurd (cc)
      by (Some k) p e = at k p (leaving_from shape t k 0 None t.rows) refl e

  pub chosen_flat : (j : ℕ) → choice shape goal t ≡ no_row j → IsFlat shape goal t j
  chosen_flat j is = by (entering shape goal) refl is
    where
      at : (k : ℕ) → entering shape goal ≡ Some k → (o : Option (Option ℕ)) → leaving_from shape t k 0 None t.rows ≡ o → choice_at k o ≡ no_row j → IsFlat shape goal t j
      at k enters None p e = absurd (cc)
      at k enters (Some (Some q)) p e = absurd (cc)
      at k enters (Some None) p e =
          let column : k ≡ j = cc in
          let low = entering_below shape goal k enters in
          subst (λ n. IsFlat shape goal t n) column
          (record { real = low.0; below = low.1; flat = leaving_best shape t k 0 None None t.rows refl (λ m few. absurd (omega (arith, few))) p })

      by : (o : Option ℕ) → entering shape goal ≡ o → choice_of shape t o ≡ no_row j → IsFlat shape goal t j
      by None p e = absurd (cc)
      by (Some k) p e = at k p (leaving_from shape t k 0 None t.rows) refl e

  pub chosen_none : choice shape goal t ≡ finished → entering shape goal ≡ None
  chosen_none is = by (entering shape goal) refl is
    where
      at : (k : ℕ) (o : Option (Option ℕ)) → choice_at k o ≡ finished → ⊥
      at k None e = absurd (cc)
      at k (Some None) e = absurd (cc)
      at k (Some (Some q)) e = absurd (cc)

      by : (o : Option ℕ) → entering shape goal ≡ o → choice_of shape t o ≡ finished → entering shape goal ≡ None
      by None p e = p
      by (Some k) p e = absurd (at k (leaving_from shape t k 0 None t.rows) e)
