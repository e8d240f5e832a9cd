-- The greedy order of a sound list: each kind stands once and after what it requires, and none is left.
use Rattle.std.proofs.Common.{ℕ, zero, suc, ◌≡◌, ◌+◌, ◌-◌, ◌<◌, ◌≤◌, ◌==◌, ◌||◌, ◌&&◌, Bool, true, false, not, cond, nat_lt, if◌then◌else◌, ⊎_elim, List, [], ◌∷◌, ◌++◌, Option, None, Some, length, take, refl, sym, ap, subst, ◌∙◌, arith}
use Rattle.std.specs.List.{All, Contains, count_by, list_any, slice_get, slice_index_or}
use Rattle.std.proofs.lemmas.Bool.{and_cases, and_from, and_parts, cases_Bool, eq-eqb, eqb-true, false_from_ne_true, false≢true, ltb-false, ltb-true, not-false, not-true, not_from_false, not_from_true, or_left, or_parts, or_right, true≢false}
use Rattle.std.proofs.lemmas.List.{take-append-le, take_at}
use Rattle.std.proofs.lemmas.List.Elements.{Contains-push_cases}
use Rattle.std.proofs.lemmas.List.Folds.{list_any-append}
use Rattle.std.proofs.lemmas.List.Sums.{AllPass-from_list_all, count_by-le-length, get_or-le-sum_by, list_all-from_AllPass, sum_by-cons}
use Rattle.std.proofs.lemmas.Option.{none-some, slice_get_within}
use Rattle.wc_model.specs.declared.kinds.Describe.{Describe}
use Rattle.wc_model.specs.Workspace.Closures.{has_all, has_kind, lesser, next_available, order_of, placed_after, placed_next, requires_of}
use Rattle.wc_model.specs.Workspace.Registry.{IsCyclic, IsDoubled, IsMissing, IsOrderOf, IsProvided, directly}
use Rattle.wc_model.proofs.Places.{contains_from_get, get_push_cases}
use Rattle.wc_registry.specs.Inner.KindSets.{holds, size}
use Rattle.wc_registry.specs.Inner.Required.{AreRequired, IsKnown}
use Rattle.wc_registry.specs.Sound.{IsSound, NoneWith}
use Rattle.wc_registry.proofs.KindLemmas.{any_at, any_from, cons_cases, first_there, has_there, later_there, none_there, one_fails, requires_at, requires_through, there_has}
use Rattle.wc_registry.proofs.SetLemmas.{size_lt}

-- how many elements pass a test
count_head : (a b : Bool) → (a ≡ true → b ≡ true) → cond a 1 0 ≤ cond b 1 0
count_head true true within = omega arith
count_head true false within = absurd (false≢true (within refl))
count_head false true within = omega arith
count_head false false within = omega arith

count_cons : {X : Type 0} (p : X → Bool) (x : X) (xs : List X) → count_by p (x ∷ xs) ≡ cond (p x) 1 0 + count_by p xs
count_cons {X} p x xs = sum_by-cons (λ (y : X). cond (p y) 1 0) x xs

count_le : {X : Type 0} (p q : X → Bool) (xs : List X) → ((x : X) → p x ≡ true → q x ≡ true) → count_by p xs ≤ count_by q xs
count_le p q [] within = omega arith
count_le p q (x ∷ xs) within = omega (arith, count_cons p x xs, count_cons q x xs, count_head (p x) (q x) (within x), count_le p q xs within)

count_more : (a b : Bool) → a ≡ false → b ≡ true → cond a 1 0 + 1 ≤ cond b 1 0
count_more true b fails passes = absurd (true≢false fails)
count_more false true fails passes = omega arith
count_more false false fails passes = absurd (false≢true passes)

count_lt : {X : Type 0} (p q : X → Bool) (xs : List X) (y : X) → ((x : X) → p x ≡ true → q x ≡ true) → Contains xs y → p y ≡ false → q y ≡ true → count_by p xs < count_by q xs
count_lt p q [] y within there fails passes = absurd (none_there y there)
count_lt {X} p q (x ∷ xs) y within there fails passes =
    ⊎_elim (λ (here : x ≡ y). omega (arith, count_cons p x xs, count_cons q x xs, count_more (p x) (q x) (ap p here ∙ fails) (ap q here ∙ passes), count_le p q xs within))
    (λ (later : Contains xs y). omega (arith, count_cons p x xs, count_cons q x xs, count_head (p x) (q x) (within x), count_lt p q xs y within later fails passes))
    (cons_cases x xs y there)

count_none : {X : Type 0} (p : X → Bool) (xs : List X) → list_any p xs ≡ false → count_by p xs ≡ 0
count_none p [] fails = refl
count_none p (x ∷ xs) fails =
    let parts : (p x ≡ false) × (list_any p xs ≡ false) = or_parts (p x) (list_any p xs) fails in
    omega (arith, count_cons p x xs, none_counted (p x) parts.0, count_none p xs parts.1)
  where
    none_counted : (b : Bool) → b ≡ false → cond b 1 0 ≤ 0
    none_counted true is = absurd (true≢false is)
    none_counted false is = omega arith

one_counted : (b : Bool) → b ≡ true → 1 ≤ cond b 1 0
one_counted true is = omega arith
one_counted false is = absurd (false≢true is)

one_counts : {X : Type 0} (p : X → Bool) (xs : List X) (y : X) → Contains xs y → p y ≡ true → 1 ≤ count_by p xs
one_counts {X} p xs y there passes =
    let within : cond (p (slice_index_or xs there.0 y)) 1 0 ≤ count_by p xs = get_or-le-sum_by (λ (x : X). cond (p x) 1 0) xs there.0 y there.1 in
    let one : 1 ≤ cond (p (slice_index_or xs there.0 y)) 1 0 = one_counted (p (slice_index_or xs there.0 y)) (ap p there.2 ∙ passes) in
    omega arith

-- what comes next
abbrev is_available : List ℕ → Describe → Bool
is_available placed d = not (has_kind d.provides placed) && has_all d.requires_ placed

-- the least kind that is available, or nothing where none is
abbrev IsNext : List Describe → List ℕ → Option ℕ → Type 0
IsNext ds placed None = (d : Describe) → Contains ds d → is_available placed d ≡ false
IsNext ds placed (Some k) = ((d : Describe) × Contains ds d × (d.provides ≡ k) × (is_available placed d ≡ true)) × ((d : Describe) → Contains ds d → is_available placed d ≡ true → k ≤ d.provides)

less_case : (d : Describe) (ds : List Describe) (placed : List ℕ) (m : ℕ) (less : Bool) → nat_lt d.provides m ≡ less → is_available placed d ≡ true → IsNext ds placed (Some m) → IsNext (d ∷ ds) placed (if less then Some d.provides else Some m)
less_case d ds placed m true less is next = (
  (d, first_there d ds, refl, is),
  λ e there available. ⊎_elim (λ (same : d ≡ e). omega (arith, ap (λ x. x.provides) same)) (λ (later : Contains ds e). omega (arith, ltb-true d.provides m less, next.1 e later available)) (cons_cases d ds e there),
)
less_case d ds placed m false less is next = (
  ((next.0).0, later_there d (next.0).0 ds (next.0).1, (next.0).2, (next.0).3),
  λ e there available. ⊎_elim (λ (same : d ≡ e). omega (arith, ltb-false d.provides m less, ap (λ x. x.provides) same)) (λ (later : Contains ds e). next.1 e later available) (cons_cases d ds e there),
)

next_case : (d : Describe) (ds : List Describe) (placed : List ℕ) (available : Bool) → is_available placed d ≡ available → (rest : Option ℕ) → IsNext ds placed rest → IsNext (d ∷ ds) placed (if available then lesser d.provides rest else rest)
next_case d ds placed false is None next = λ e there. ⊎_elim (λ (same : d ≡ e). ap (λ x. is_available placed x) (sym same) ∙ is) (λ (later : Contains ds e). next e later) (cons_cases d ds e there)
next_case d ds placed false is (Some m) next = (
  ((next.0).0, later_there d (next.0).0 ds (next.0).1, (next.0).2, (next.0).3),
  λ e there available. ⊎_elim (λ (same : d ≡ e). absurd (false≢true (sym is ∙ ap (λ x. is_available placed x) same ∙ available))) (λ (later : Contains ds e). next.1 e later available) (cons_cases d ds e there),
)
next_case d ds placed true is None next = (
  (d, first_there d ds, refl, is),
  λ e there available. ⊎_elim (λ (same : d ≡ e). omega (arith, ap (λ x. x.provides) same)) (λ (later : Contains ds e). absurd (false≢true (sym (next e later) ∙ available))) (cons_cases d ds e there),
)
next_case d ds placed true is (Some m) next = less_case d ds placed m (nat_lt d.provides m) refl is next

next_is : (ds : List Describe) (placed : List ℕ) → IsNext ds placed (next_available ds placed)
next_is [] placed = λ d there. absurd (none_there d there)
next_is (d ∷ ds) placed = next_case d ds placed (is_available placed d) refl (next_available ds placed) (next_is ds placed)

all_has : (kinds placed : List ℕ) → has_all kinds placed ≡ true → All (Contains placed) kinds
all_has kinds placed has = λ i d within. has_there (slice_index_or kinds i d) placed (AllPass-from_list_all (λ k. has_kind k placed) kinds has i d within)

has_from_all : (kinds placed : List ℕ) → All (Contains placed) kinds → has_all kinds placed ≡ true
has_from_all kinds placed all = list_all-from_AllPass (λ k. has_kind k placed) kinds (λ i d within. there_has (slice_index_or kinds i d) placed (all i d within))

module _ (kinds : List Describe) (sound : IsSound kinds) where
  provided_case : (d : Describe) (j : ℕ) (provided : Bool) → list_any (λ e. e.provides == j) kinds ≡ provided → Contains kinds d → Contains d.requires_ j → IsProvided kinds j
  provided_case d j true is there required = let found : (e : Describe) × Contains kinds e × ((e.provides == j) ≡ true) = any_at (λ e. e.provides == j) kinds is in (found.0, found.1, eqb-true (found.0).provides j found.2)
  provided_case d j false is there required = absurd (sound.complete j (d, there, required, λ provided. false≢true (sym is ∙ any_from (λ e. e.provides == j) kinds provided.0 provided.1 (eq-eqb (provided.0).provides j provided.2))))

  -- What is placed so far.
  record IsPlaced (placed : List ℕ) : Type 0 where
    once : (i j k : ℕ) → slice_get placed i ≡ Some k → slice_get placed j ≡ Some k → i ≡ j
    provided : (k : ℕ) → Contains placed k → IsProvided kinds k
    after : (i k : ℕ) → slice_get placed i ≡ Some k → All (Contains (take i placed)) (requires_of kinds k)
    least : (i k j : ℕ) → slice_get placed i ≡ Some k → IsProvided kinds j → (Contains (take i placed) j → ⊥) → All (Contains (take i placed)) (requires_of kinds j) → k ≤ j

  placed_none : IsPlaced []
  placed_none =
      record {
        once = λ i j k at other. absurd (none-some k at);
        provided = λ k there. absurd (none_there k there);
        after = λ i k at. absurd (none-some k at);
        least = λ i k j at is absent all. absurd (none-some k at);
      }

  module _ (placed : List ℕ) (k : ℕ) (next : IsNext kinds placed (Some k)) (known : IsPlaced placed) where
    unplaced : Contains placed k → ⊥
    unplaced there =
        let parts = and_parts (not (has_kind ((next.0).0).provides placed)) (has_all ((next.0).0).requires_ placed) (next.0).3 in
        false≢true (sym (not-true (has_kind ((next.0).0).provides placed) parts.0) ∙ ap (λ j. has_kind j placed) (next.0).2 ∙ there_has k placed there)

    now_after : All (Contains placed) (requires_of kinds k)
    now_after =
        let parts = and_parts (not (has_kind ((next.0).0).provides placed)) (has_all ((next.0).0).requires_ placed) (next.0).3 in
        let same : requires_of kinds k ≡ ((next.0).0).requires_ = ap (λ j. requires_of kinds j) (sym (next.0).2) ∙ requires_at kinds sound.single (next.0).0 (next.0).1 in
        subst (λ (ks : List ℕ). All (Contains placed) ks) (sym same) (all_has ((next.0).0).requires_ placed parts.1)

    now_least : (j : ℕ) → IsProvided kinds j → (Contains placed j → ⊥) → All (Contains placed) (requires_of kinds j) → k ≤ j
    now_least j (e, there, is) absent all =
        let same : requires_of kinds j ≡ e.requires_ = ap (λ n. requires_of kinds n) (sym is) ∙ requires_at kinds sound.single e there in
        let fresh : has_kind e.provides placed ≡ false = false_from_ne_true (has_kind e.provides placed) (λ has. absent (subst (λ (n : ℕ). Contains placed n) is (has_there e.provides placed has))) in
        let available : is_available placed e ≡ true = and_from (not (has_kind e.provides placed)) (has_all e.requires_ placed) (not_from_false (has_kind e.provides placed) fresh) (has_from_all e.requires_ placed (subst (λ (ks : List ℕ). All (Contains placed) ks) same all)) in
        omega (arith, next.1 e there available, is)

    placed_more : IsPlaced (placed ++ k ∷ [])
    placed_more =
        record {
          once = λ i j m at other. ⊎_elim
              (λ (left : slice_get placed i ≡ Some m). ⊎_elim (λ (also : slice_get placed j ≡ Some m). known.once i j m left also)
              (λ (last : (j ≡ length placed) × (k ≡ m)). absurd (unplaced (contains_from_get placed i k (left ∙ ap Some (sym last.1)))))
              (get_push_cases placed k j m other))
              (λ (last : (i ≡ length placed) × (k ≡ m)). ⊎_elim (λ (left : slice_get placed j ≡ Some m). absurd (unplaced (contains_from_get placed j k (left ∙ ap Some (sym last.1)))))
              (λ (also : (j ≡ length placed) × (k ≡ m)). last.0 ∙ sym also.0)
              (get_push_cases placed k j m other))
              (get_push_cases placed k i m at);
          provided = λ m there. ⊎_elim (λ (before : Contains placed m). known.provided m before)
              (λ (last : k ≡ m). ((next.0).0, (next.0).1, (next.0).2 ∙ last))
              (Contains-push_cases placed k m there);
          after = λ i m at. ⊎_elim
              (λ (left : slice_get placed i ≡ Some m). subst (λ (xs : List ℕ). All (Contains xs) (requires_of kinds m)) (sym (front i m left)) (known.after i m left))
              (λ (last : (i ≡ length placed) × (k ≡ m)). subst (λ (xs : List ℕ). All (Contains xs) (requires_of kinds m)) (sym (whole i last.0)) (subst (λ (n : ℕ). All (Contains placed) (requires_of kinds n)) last.1 now_after))
              (get_push_cases placed k i m at);
          least = λ i m j at is fresh all. ⊎_elim
              (λ (left : slice_get placed i ≡ Some m). known.least i m j left is (λ there. fresh (subst (λ (xs : List ℕ). Contains xs j) (sym (front i m left)) there)) (subst (λ (xs : List ℕ). All (Contains xs) (requires_of kinds j)) (front i m left) all))
              (λ (last : (i ≡ length placed) × (k ≡ m)). omega (arith, last.1, now_least j is (λ there. fresh (subst (λ (xs : List ℕ). Contains xs j) (sym (whole i last.0)) there)) (subst (λ (xs : List ℕ). All (Contains xs) (requires_of kinds j)) (whole i last.0) all)))
              (get_push_cases placed k i m at);
        }
      where
        front : (i m : ℕ) → slice_get placed i ≡ Some m → take i (placed ++ k ∷ []) ≡ take i placed
        front i m at = let less : i < length placed = slice_get_within placed i m at in take-append-le i placed (k ∷ []) (omega arith)

        whole : (i : ℕ) → i ≡ length placed → take i (placed ++ k ∷ []) ≡ placed
        whole i is = take_at placed (k ∷ []) i (sym is)

  -- how many descriptions are of kinds that aren't placed
  abbrev left : List ℕ → ℕ
  left placed = count_by (λ d. not (has_kind d.provides placed)) kinds

  has_more : (j k : ℕ) (placed : List ℕ) → has_kind j (placed ++ k ∷ []) ≡ (has_kind j placed || ((k == j) || false))
  has_more j k placed = list_any-append (λ n. n == j) placed (k ∷ [])

  left_falls : (placed : List ℕ) (k : ℕ) → IsNext kinds placed (Some k) → left (placed ++ k ∷ []) < left placed
  left_falls placed k next =
      let d : Describe = (next.0).0 in
      let parts = and_parts (not (has_kind d.provides placed)) (has_all d.requires_ placed) (next.0).3 in
      let has : has_kind d.provides (placed ++ k ∷ []) ≡ true = has_more d.provides k placed ∙ or_right (has_kind d.provides placed) ((k == d.provides) || false) (or_left (k == d.provides) false (eq-eqb k d.provides (sym (next.0).2))) in
      count_lt (λ e. not (has_kind e.provides (placed ++ k ∷ []))) (λ e. not (has_kind e.provides placed)) kinds d
      (λ e fresh. not_from_false (has_kind e.provides placed) ((or_parts (has_kind e.provides placed) ((k == e.provides) || false) (sym (has_more e.provides k placed) ∙ not-true (has_kind e.provides (placed ++ k ∷ [])) fresh)).0))
      (next.0).1 (not_from_true (has_kind d.provides (placed ++ k ∷ [])) has) parts.0

  module _ (sets : List (List Bool)) (required : AreRequired kinds sets) (below : (k : ℕ) → IsProvided kinds k → k < 65) where
    abbrev row : ℕ → List Bool
    row k = slice_index_or sets k []

    -- what a kind requires requires less
    row_less : (k j : ℕ) → IsProvided kinds k → IsProvided kinds j → Contains (requires_of kinds k) j → size (row j) < size (row k)
    row_less k j is_k is_j there =
        let of_k = λ (x : ℕ). required.are k x (below k is_k) in
        let of_j = λ (x : ℕ). required.are j x (below j is_j) in
        size_lt (row j) (row k) (λ x held. (of_k x).1 (requires_through kinds (directly there) ((of_j x).0 held))) j (false_from_ne_true (holds (row j) j) (λ held. sound.acyclic j ((of_j j).0 held))) ((of_k j).1 (directly there))

    -- While a kind isn't placed, one is available.
    stuck : (n : ℕ) (placed : List ℕ) (d : Describe) → Contains kinds d → size (row d.provides) < n → has_kind d.provides placed ≡ false → ((e : Describe) → Contains kinds e → is_available placed e ≡ false) → ⊥
    stuck zero placed d there less fresh none = omega arith
    stuck (suc n) placed d there less fresh none =
        let misses : has_all d.requires_ placed ≡ false = ⊎_elim (λ (not_fresh : not (has_kind d.provides placed) ≡ false). absurd (false≢true (sym fresh ∙ not-false (has_kind d.provides placed) not_fresh))) (λ (misses : has_all d.requires_ placed ≡ false). misses) (and_cases (not (has_kind d.provides placed)) (has_all d.requires_ placed) (none d there)) in
        let one : (j : ℕ) × Contains d.requires_ j × (has_kind j placed ≡ false) = one_fails (λ j. has_kind j placed) d.requires_ misses in
        let is : IsProvided kinds one.0 = provided_case d one.0 (list_any (λ e. e.provides == one.0) kinds) refl there one.1 in
        let needs : Contains (requires_of kinds d.provides) one.0 = subst (λ (ks : List ℕ). Contains ks one.0) (sym (requires_at kinds sound.single d there)) one.1 in
        let smaller : size (row one.0) < size (row d.provides) = row_less d.provides one.0 (d, there, refl) is needs in
        stuck n placed is.0 is.1 (omega (arith, ap (λ j. size (row j)) is.2)) (ap (λ j. has_kind j placed) is.2 ∙ one.2) none

    none_left : (placed : List ℕ) → IsNext kinds placed None → left placed ≡ 0
    none_left placed none =
        ⊎_elim
        (λ (some : list_any (λ d. not (has_kind d.provides placed)) kinds ≡ true).
        let found : (d : Describe) × Contains kinds d × (not (has_kind d.provides placed) ≡ true) = any_at (λ d. not (has_kind d.provides placed)) kinds some in
        absurd (stuck (size (row (found.0).provides) + 1) placed found.0 found.1 (omega arith) (not-true (has_kind (found.0).provides placed) found.2) none))
        (λ (all : list_any (λ d. not (has_kind d.provides placed)) kinds ≡ false). count_none (λ d. not (has_kind d.provides placed)) kinds all)
        (cases_Bool (list_any (λ d. not (has_kind d.provides placed)) kinds))

    step_case : (n : ℕ) (placed : List ℕ) (next : Option ℕ) → IsNext kinds placed next → IsPlaced placed → left placed ≤ length kinds - n → IsPlaced (placed_next placed next) × (left (placed_next placed next) ≤ length kinds - suc n)
    step_case n placed None next known few = (known, omega (arith, none_left placed next))
    step_case n placed (Some k) next known few = (placed_more placed k next known, omega (arith, left_falls placed k next))

    placed_so_far : (n : ℕ) → IsPlaced (placed_after kinds n) × (left (placed_after kinds n) ≤ length kinds - n)
    placed_so_far zero = (placed_none, omega (arith, count_by-le-length (λ d. not (has_kind d.provides [])) kinds))
    placed_so_far (suc n) = let before = placed_so_far n in step_case n (placed_after kinds n) (next_available kinds (placed_after kinds n)) (next_is kinds (placed_after kinds n)) before.0 before.1

    pub order_is : IsOrderOf kinds (order_of kinds)
    order_is =
        let all = placed_so_far (length kinds) in
        record {
          exactly = λ k. ((all.0).provided k, λ is. has_there k (order_of kinds) (placed_each k is all.1));
          once = (all.0).once;
          after = (all.0).after;
          least = (all.0).least;
        }
      where
        placed_each : (k : ℕ) → IsProvided kinds k → left (order_of kinds) ≤ length kinds - length kinds → has_kind k (order_of kinds) ≡ true
        placed_each k (d, there, is) few =
            ⊎_elim (λ (has : has_kind d.provides (order_of kinds) ≡ true). ap (λ j. has_kind j (order_of kinds)) (sym is) ∙ has)
            (λ (fresh : has_kind d.provides (order_of kinds) ≡ false). let counts : 1 ≤ left (order_of kinds) = one_counts (λ e. not (has_kind e.provides (order_of kinds))) kinds d there (not_from_false (has_kind d.provides (order_of kinds)) fresh) in absurd (omega arith))
            (cases_Bool (has_kind d.provides (order_of kinds)))

pub known_is : (kinds : List Describe) (order : List ℕ) (sets : List (List Bool)) → NoneWith (IsDoubled kinds) → NoneWith (IsMissing kinds) → NoneWith (IsCyclic kinds) → ((k : ℕ) → IsProvided kinds k → k < 65) → AreRequired kinds sets → order ≡ order_of kinds → IsKnown kinds order sets
known_is kinds order sets single complete acyclic below required listed =
    let sound : IsSound kinds = record { single = single; complete = complete; acyclic = acyclic } in
    record {
      sound = sound;
      ordered = subst (λ (ks : List ℕ). IsOrderOf kinds ks) (sym listed) (order_is kinds sound sets required below);
      listed = listed;
      required = required;
    }
