-- The columns of a system in their order: each step stands in exactly one, once.
use Rattle.std.proofs.Common.{◌≡◌, ℕ, zero, suc, ◌+◌, ◌-◌, ◌<◌, ◌≤◌, ◌==◌, nat_lt, ◌||◌, ◌&&◌, not, ℤ, pos, ◌+ℤ◌, ◌*ℤ◌, ◌≤ℤ◌, Bool, true, false, if◌then◌else◌, List, [], ◌∷◌, ◌++◌, map, get_or, drop, length, inl, inr, ◌⊎◌, Option, None, Some, option_and_then, refl, sym, ap, ap₂, subst, ◌∙◌, arith}
use Rattle.std.specs.Prelude.{IfSome, slice_get}
use Rattle.std.specs.List.{All, AllByRecursion}
use Rattle.std.proofs.lemmas.Bool.{cases_eq, eq-eqb, ne_eqb, or_parts}
use Rattle.std.proofs.lemmas.Bool.Decides.{nat_tests}
use Rattle.std.proofs.lemmas.Int.{ints}
use Rattle.std.proofs.lemmas.List.Elements.{All-append, All-cons, All-head, All-nil, All-tail}
use Rattle.std.proofs.lemmas.Option.{slice_get_within}
use Rattle.wc_base.specs.Sums.{chosen, sum_in, sum_placed}
use Rattle.wc_base.proofs.SumLemmas.{sum_same, sum_scale}
use Rattle.wc_dual.proofs.DualityLemmas.{sum_listed}
use Rattle.wc_model.specs.declared.flow_system.System.{System}
use Rattle.wc_model.specs.declared.flow_system.SystemStep.{SystemStep}
use Rattle.wc_model.specs.Flow.Cells.{column_from, column_of, columns_of, first_steps, in_order, is_passed, next_of, starts_before, with_column}
use Rattle.wc_model.specs.Flow.Places.{IsOnce, is_listed, places_from}
use Rattle.wc_model.specs.Flow.RowResults as results
use Rattle.wc_model.specs.Flow.Tableaus.{no_step}
use Rattle.wc_simplex.specs.Inner.Columns.{IsChain}
use Rattle.wc_simplex.proofs.ChainLemmas.{IsFirst, IsOnFrom, count, count_places, listed_on, next_is, none_on, on, on_few, on_listed, on_same, once_on, places_pass, step_at, within_on}

abbrev pub flat : List (List ℕ) → List ℕ
flat [] = []
flat (c ∷ cs) = c ++ flat cs

pub count_append : (k : ℕ) (xs ys : List ℕ) → count k (xs ++ ys) ≡ count k xs + count k ys
count_append k [] ys = zero_add (count k ys)
  where
    zero_add : (n : ℕ) → n ≡ 0 + n
    zero_add n = omega arith
count_append k (x ∷ xs) ys = omega (arith, count_append k xs ys)

count_with : (k : ℕ) (steps : List SystemStep) (c : List ℕ) (cs : List (List ℕ)) → count k (flat (with_column steps c cs)) ≡ count k c + count k (flat cs)
count_with k steps c [] = count_append k c []
count_with k steps c (other ∷ cs) = by (starts_before steps c other) (count_with k steps c cs)
  where
    by : (b : Bool) → count k (flat (with_column steps c cs)) ≡ count k c + count k (flat cs)
        → count k (flat (if b then c ∷ other ∷ cs else other ∷ with_column steps c cs)) ≡ count k c + count k (other ++ flat cs)
    by true later = count_append k c (other ++ flat cs)
    by false later = omega (arith, count_append k other (flat (with_column steps c cs)), count_append k other (flat cs), later)

count_order : (k : ℕ) (steps : List SystemStep) (cs : List (List ℕ)) → count k (flat (in_order steps cs)) ≡ count k (flat cs)
count_order k steps [] = refl
count_order k steps (c ∷ cs) = count_with k steps c (in_order steps cs) ∙ ap (λ n. count k c + n) (count_order k steps cs) ∙ sym (count_append k c (flat cs))

-- what holds of each column holds of those in order
module _ (P : List ℕ → Type 0) (steps : List SystemStep) where
  each_with : (c : List ℕ) (cs : List (List ℕ)) → P c → AllByRecursion P cs → AllByRecursion P (with_column steps c cs)
  each_with c [] p all = (p, tt)
  each_with c (other ∷ cs) p all = by (starts_before steps c other) (each_with c cs p all.1)
    where
      by : (b : Bool) → AllByRecursion P (with_column steps c cs) → AllByRecursion P (if b then c ∷ other ∷ cs else other ∷ with_column steps c cs)
      by true later = (p, all)
      by false later = (all.0, later)

  pub each_order : (cs : List (List ℕ)) → AllByRecursion P cs → AllByRecursion P (in_order steps cs)
  each_order [] all = tt
  each_order (c ∷ cs) all = each_with c (in_order steps cs) all.0 (each_order cs all.1)

-- counts and lists
pub unlisted_count : (k : ℕ) (xs : List ℕ) → is_listed k xs ≡ false → count k xs ≡ 0
unlisted_count k [] none = refl
unlisted_count k (x ∷ xs) none =
    let parts : ((k == x) ≡ false) × (is_listed k xs ≡ false) = or_parts (k == x) (is_listed k xs) none in
    ap₂ (λ (b : Bool) n. (if b then 1 else 0) + n) parts.0 (unlisted_count k xs parts.1)

once_count : (k : ℕ) (xs : List ℕ) → IsOnce xs → is_listed k xs ≡ true → count k xs ≡ 1
once_count k [] once listed = absurd (cc)
once_count k (x ∷ xs) once listed = by (cases_eq k x) (once_count k xs once.1)
  where
    by : (k ≡ x) ⊎ (k ≡ x → ⊥) → (is_listed k xs ≡ true → count k xs ≡ 1) → (if k == x then 1 else 0) + count k xs ≡ 1
    by (inl same) go = ap₂ (λ (b : Bool) n. (if b then 1 else 0) + n) (eq-eqb k x same) (unlisted_count k xs (subst (λ n. is_listed n xs ≡ false) (sym same) once.0))
    by (inr apart) go = ap₂ (λ (b : Bool) n. (if b then 1 else 0) + n) (ne_eqb k x apart) (go (ap (λ b. b || is_listed k xs) (sym (ne_eqb k x apart)) ∙ listed))

abbrev bit : Bool → ℕ
bit b = if b then 1 else 0

count_listed : (k : ℕ) (xs : List ℕ) → 0 < count k xs → is_listed k xs ≡ true
count_listed k xs some = by (is_listed k xs) refl
  where
    by : (b : Bool) → is_listed k xs ≡ b → b ≡ true
    by true e = refl
    by false e = absurd (omega (arith, some, unlisted_count k xs e))

pub counted_once : (xs : List ℕ) → ((k : ℕ) → count k xs ≤ 1) → IsOnce xs
counted_once [] few = tt
counted_once (x ∷ xs) few = (by (is_listed x xs) refl, counted_once xs (λ k. less k))
  where
    less : (k : ℕ) → count k xs ≤ 1
    less k = omega (arith, few k)

    some : (xs : List ℕ) → is_listed x xs ≡ true → 0 < count x xs
    some [] listed = absurd (cc)
    some (y ∷ ys) listed = at (cases_eq x y) (some ys)
      where
        at : (x ≡ y) ⊎ (x ≡ y → ⊥) → (is_listed x ys ≡ true → 0 < count x ys) → 0 < (if x == y then 1 else 0) + count x ys
        at (inl same) go =
            omega (arith, ap bit (eq-eqb x y same))
        at (inr apart) go = omega (arith, go (ap (λ b. b || is_listed x ys) (sym (ne_eqb x y apart)) ∙ listed))

    by : (b : Bool) → is_listed x xs ≡ b → b ≡ false
    by false e = refl
    by true e =
        absurd (omega (arith, few x, some xs e, ap bit (eq-eqb x x refl)))

module _ (s : System) where
  -- how often a step stands in the column of a first step
  count_column : (k i : ℕ) → IsFirst s i → (of : IsOnFrom s k) → count k (column_of s i) ≡ (if of.first == i then 1 else 0)
  count_column k i first of = by (cases_eq of.first i)
    where
      by : (of.first ≡ i) ⊎ (of.first ≡ i → ⊥) → count k (column_of s i) ≡ (if of.first == i then 1 else 0)
      by (inl same) =
          once_count k (column_of s i) (once_on s (length s.steps) 0 i first)
          (on_listed s (length s.steps) 0 i k of.far (omega arith) (omega (arith, on_few s of.far 0 of.first k of.is_first of.there)) (ap (λ n. on s of.far n) (sym same) ∙ of.there))
          ∙ ap (λ (b : Bool). if b then 1 else 0) (sym (eq-eqb of.first i same))
      by (inr apart) =
          unlisted_count k (column_of s i) (none (is_listed k (column_of s i)) refl) ∙ ap (λ (b : Bool). if b then 1 else 0) (sym (ne_eqb of.first i apart))
        where
          none : (b : Bool) → is_listed k (column_of s i) ≡ b → b ≡ false
          none false e = refl
          none true e =
              let found = listed_on s (length s.steps) 0 i k e in
              absurd (apart (on_same s of.far found.0 of.first i k of.is_first first of.there found.3).1)

  count_columns : (k : ℕ) (firsts : List ℕ) → All (IsFirst s) firsts → (of : IsOnFrom s k) → count k (flat (map (column_of s) firsts)) ≡ count of.first firsts
  count_columns k [] firsts of = refl
  count_columns k (i ∷ is) firsts of =
      count_append k (column_of s i) (flat (map (column_of s) is))
      ∙ ap₂ (λ m n. m + n) (count_column k i (All-head (IsFirst s) i is firsts) of) (count_columns k is (All-tail (IsFirst s) i is firsts) of)

  not_true : (b : Bool) → not b ≡ true → b ≡ false
  not_true true e = absurd (cc)
  not_true false e = refl

  all_first : All (IsFirst s) (first_steps s)
  all_first =
      places_pass (λ i t. not (is_passed s t.source)) (IsFirst s) 0 s.steps
      (λ m within passes. let none : 0 + m ≡ m = omega arith in subst (IsFirst s) (sym none) (within, not_true (is_passed s (step_at s m).source) passes))

  first_counted : (k : ℕ) → (of : IsOnFrom s k) → count of.first (first_steps s) ≡ 1
  first_counted k of =
      let none : 0 + of.first ≡ of.first = omega arith in
      subst (λ (n : ℕ). count n (first_steps s) ≡ 1) none
      (count_places (λ i t. not (is_passed s t.source)) 0 of.first s.steps of.is_first.0 ∙ ap (λ (b : Bool). if not b then 1 else 0) of.is_first.1)

  pub counted : (k : ℕ) → IsOnFrom s k → count k (flat (columns_of s)) ≡ 1
  counted k of = count_order k s.steps (map (column_of s) (first_steps s)) ∙ count_columns k (first_steps s) all_first of ∙ first_counted k of

  -- all steps of columns are steps of the system
  inside_firsts : (firsts : List ℕ) → All (IsFirst s) firsts → AllByRecursion (All (λ k. k < length s.steps)) (map (column_of s) firsts)
  inside_firsts [] all = tt
  inside_firsts (i ∷ is) all = (within_on s (length s.steps) 0 i (All-head (IsFirst s) i is all), inside_firsts is (All-tail (IsFirst s) i is all))

  pub inside_each : AllByRecursion (All (λ k. k < length s.steps)) (columns_of s)
  inside_each = each_order (All (λ k. k < length s.steps)) s.steps (map (column_of s) (first_steps s)) (inside_firsts (first_steps s) all_first)

  flat_inside : (cs : List (List ℕ)) → AllByRecursion (All (λ k. k < length s.steps)) cs → All (λ k. k < length s.steps) (flat cs)
  flat_inside [] all = All-nil (λ k. k < length s.steps)
  flat_inside (c ∷ cs) all = All-append (λ k. k < length s.steps) c (flat cs) all.0 (flat_inside cs all.1)

  pub inside : All (λ k. k < length s.steps) (flat (columns_of s))
  inside = flat_inside (columns_of s) inside_each

  beyond : (k : ℕ) (xs : List ℕ) → All (λ i. i < length s.steps) xs → length s.steps ≤ k → is_listed k xs ≡ false
  beyond k [] all far = refl
  beyond k (x ∷ xs) all far =
      ap₂ (λ a b. a || b) (ne_eqb k x (λ same. omega (arith, far, same, All-head (λ i. i < length s.steps) x xs all))) (beyond k xs (All-tail (λ i. i < length s.steps) x xs all) far)

  module _ (each : (k : ℕ) → k < length s.steps → IsOnFrom s k) where
    pub few : (k : ℕ) → count k (flat (columns_of s)) ≤ 1
    few k = by (nat_lt k (length s.steps)) refl
      where
        by : (b : Bool) → nat_lt k (length s.steps) ≡ b → count k (flat (columns_of s)) ≤ 1
        by true e = omega (arith, counted k (each k (grind (arith, nat_tests))))
        by false e =
            let far : length s.steps ≤ k = grind (arith, nat_tests) in
            omega (arith, unlisted_count k (flat (columns_of s)) (beyond k (flat (columns_of s)) inside far))

    pub once : IsOnce (flat (columns_of s))
    once = counted_once (flat (columns_of s)) few

    pub listed : (k : ℕ) → k < length s.steps → is_listed k (flat (columns_of s)) ≡ true
    listed k within = count_listed k (flat (columns_of s)) (omega (arith, counted k (each k within)))

    -- a sum over all columns is one over the steps
    pub sum_flat : (f : ℕ → ℤ) → sum_in f (flat (columns_of s)) ≡ sum_placed (λ i _. f i) s.steps
    sum_flat f =
        sym (sum_listed f s.steps (flat (columns_of s)) inside once)
        ∙ sum_same (λ i _. chosen (is_listed i (flat (columns_of s))) (f i)) (λ i _. f i) s.steps
        (λ i t at. ap (λ b. chosen b (f i)) (listed i (slice_get_within s.steps i t at)))

-- What a column is: it begins at a node that isn't passed through, and goes on as long as it can.
abbrev pub RunsFrom : System → ℕ → List ℕ → Type 0
RunsFrom s i [] = next_of s i ≡ None
RunsFrom s i (k ∷ later) = (next_of s i ≡ Some k) × RunsFrom s k later

pub record IsRun (s : System) (column : List ℕ) : Type 0 where
  pub first : ℕ
  pub later : List ℕ
  pub is : column ≡ first ∷ later
  pub is_first : IsFirst s first
  pub runs : RunsFrom s first later

module _ (s : System) where
  runs_on : (n c i m : ℕ) → IsFirst s i → suc c + n ≡ length s.steps → on s c i ≡ Some m → RunsFrom s m (column_from s n (next_of s m))
  runs_on zero c i m first fuel at = by (next_of s m) refl
    where
      by : (o : Option ℕ) → next_of s m ≡ o → RunsFrom s m (column_from s 0 o)
      by None e = e
      by (Some k) e =
          let all : suc c ≡ length s.steps = omega (arith, fuel) in
          absurd (none_on s i k first (ap (λ n. on s n i) (sym all) ∙ ap (option_and_then (next_of s)) at ∙ e))
  runs_on (suc n) c i m first fuel at = by (next_of s m) refl (λ k p e. runs_on n (suc c) i k first p e)
    where
      by : (o : Option ℕ) → next_of s m ≡ o → ((k : ℕ) → suc (suc c) + n ≡ length s.steps → on s (suc c) i ≡ Some k → RunsFrom s k (column_from s n (next_of s k))) → RunsFrom s m (column_from s (suc n) o)
      by None e go = e
      by (Some k) e go = (e, go k (omega (arith, fuel)) (ap (option_and_then (next_of s)) at ∙ e))

  pub column_runs : (i : ℕ) → IsFirst s i → IsRun s (column_of s i)
  column_runs i first = by (length s.steps) refl
    where
      by : (n : ℕ) → length s.steps ≡ n → IsRun s (column_from s n (Some i))
      by zero none = absurd (omega (arith, none, first.0))
      by (suc n) is =
          record {
            first = i;
            later = column_from s n (next_of s i);
            is = refl;
            is_first = first;
            runs = runs_on n 0 i i first (omega (arith, is)) refl;
          }

  runs_firsts : (firsts : List ℕ) → All (IsFirst s) firsts → AllByRecursion (IsRun s) (map (column_of s) firsts)
  runs_firsts [] all = tt
  runs_firsts (i ∷ is) all = (column_runs i (All-head (IsFirst s) i is all), runs_firsts is (All-tail (IsFirst s) i is all))

  pub runs_each : AllByRecursion (IsRun s) (columns_of s)
  runs_each = each_order (IsRun s) s.steps (map (column_of s) (first_steps s)) (runs_firsts (first_steps s) (all_first s))

  run_chain : (i : ℕ) (later : List ℕ) → RunsFrom s i later → IsChain s (i ∷ later)
  run_chain i [] runs k within = absurd (omega (arith, within))
  run_chain i (m ∷ later) runs zero within = (next_is s i m runs.0).leads
  run_chain i (m ∷ later) runs (suc k) within = run_chain m later runs.1 k (omega (arith, within))

  pub run_is_chain : (column : List ℕ) → IsRun s column → IsChain s column
  run_is_chain column run = subst (λ (l : List ℕ). IsChain s l) (sym run.is) (run_chain run.first run.later run.runs)

-- Counts of columns are counts of their steps.
column_here : (i k : ℕ) (c : List ℕ) (cs : List (List ℕ)) → is_listed i c ≡ true → results.column_of i k (c ∷ cs) ≡ k
column_here i k c cs listed = ap (λ b. if b then k else results.column_of i (suc k) cs) listed

column_later : (i k : ℕ) (c : List ℕ) (cs : List (List ℕ)) → is_listed i c ≡ false → results.column_of i k (c ∷ cs) ≡ results.column_of i (suc k) cs
column_later i k c cs listed = ap (λ b. if b then k else results.column_of i (suc k) cs) listed

abbrev pub over_columns : (ℕ → ℤ) → (ℕ → ℤ) → ℕ → List (List ℕ) → ℤ
over_columns c g k [] = pos 0
over_columns c g k (column ∷ columns) = c k *ℤ sum_in g column +ℤ over_columns c g (suc k) columns

sum_in_append : (f : ℕ → ℤ) (xs ys : List ℕ) → sum_in f (xs ++ ys) ≡ sum_in f xs +ℤ sum_in f ys
sum_in_append f [] ys = zero_add (sum_in f ys)
  where
    zero_add : (z : ℤ) → z ≡ pos 0 +ℤ z
    zero_add z = omega (arith, ints)
sum_in_append f (x ∷ xs) ys = omega (arith, ints, sum_in_append f xs ys)

apart_lists : (xs ys : List ℕ) → IsOnce (xs ++ ys) → IsOnce ys × ((i : ℕ) → is_listed i xs ≡ true → is_listed i ys ≡ false)
apart_lists [] ys all = (all, λ i listed. absurd (cc))
apart_lists (x ∷ xs) ys all =
    let rest = apart_lists xs ys all.1 in
    (rest.0, λ i listed. by i listed (cases_eq i x) rest.1)
  where
    right : (zs : List ℕ) → is_listed x (zs ++ ys) ≡ false → is_listed x ys ≡ false
    right [] e = e
    right (z ∷ zs) e = right zs (or_parts (x == z) (is_listed x (zs ++ ys)) e).1

    by : (i : ℕ) → is_listed i (x ∷ xs) ≡ true → (i ≡ x) ⊎ (i ≡ x → ⊥) → ((i : ℕ) → is_listed i xs ≡ true → is_listed i ys ≡ false) → is_listed i ys ≡ false
    by i listed (inl same) rest = subst (λ n. is_listed n ys ≡ false) (sym same) (right xs all.0)
    by i listed (inr apart) rest = rest i (ap (λ b. b || is_listed i xs) (sym (ne_eqb i x apart)) ∙ listed)

same_in : (f g : ℕ → ℤ) (xs : List ℕ) → ((i : ℕ) → is_listed i xs ≡ true → f i ≡ g i) → sum_in f xs ≡ sum_in g xs
same_in f g [] each = refl
same_in f g (x ∷ xs) each =
    ap₂ (λ a b. a +ℤ b) (each x (ap (λ b. b || is_listed x xs) (eq-eqb x x refl))) (same_in f g xs (λ i listed. each i (or_right (i == x) (is_listed i xs) listed)))
  where
    or_right : (a b : Bool) → b ≡ true → (a || b) ≡ true
    or_right true b e = refl
    or_right false b e = e

pub columns_carry : (c g : ℕ → ℤ) (k : ℕ) (columns : List (List ℕ)) → IsOnce (flat columns) → over_columns c g k columns ≡ sum_in (λ i. c (results.column_of i k columns) *ℤ g i) (flat columns)
columns_carry c g k [] once = refl
columns_carry c g k (column ∷ columns) once =
    let parts = apart_lists column (flat columns) once in
    ap₂ (λ a b. a +ℤ b)
    (sym (sum_scale (c k) (λ _ i. g i) column) ∙ same_in (λ i. c k *ℤ g i) (λ i. c (results.column_of i k (column ∷ columns)) *ℤ g i) column
    (λ i listed. ap (λ n. c n *ℤ g i) (sym (column_here i k column columns listed))))
    (columns_carry c g (suc k) columns parts.0
    ∙ same_in (λ i. c (results.column_of i (suc k) columns) *ℤ g i) (λ i. c (results.column_of i k (column ∷ columns)) *ℤ g i) (flat columns)
    (λ i listed. ap (λ n. c n *ℤ g i) (sym (column_later i k column columns (apart i parts.1 listed)))))
    ∙ sym (sum_in_append (λ i. c (results.column_of i k (column ∷ columns)) *ℤ g i) column (flat columns))
  where
    apart : (i : ℕ) → ((i : ℕ) → is_listed i column ≡ true → is_listed i (flat columns) ≡ false) → is_listed i (flat columns) ≡ true → is_listed i column ≡ false
    apart i parts listed = by (is_listed i column) refl
      where
        wrong : is_listed i (flat columns) ≡ false → ⊥
        wrong e = at (is_listed i (flat columns)) listed e
          where
            at : (b : Bool) → b ≡ true → b ≡ false → ⊥
            at true p q = cc
            at false p q = cc

        by : (b : Bool) → is_listed i column ≡ b → b ≡ false
        by false e = refl
        by true e = absurd (wrong (parts i e))
