-- A solution over names is one over the lines that they name.
use Rattle.std.proofs.Common.{ℕ, zero, suc, ◌≡◌, ◌≢◌, ◌<◌, ◌≤◌, ◌+◌, ◌-◌, ◌==◌, ⊎_elim, min, Bool, true, false, if◌then◌else◌, List, [], ◌∷◌, ◌++◌, Option, None, Some, Err, length, get_or, refl, sym, ap, subst, ◌∙◌, arith, length-append}
use Rattle.std.specs.Prelude.{nat_lt}
use Rattle.std.specs.List.{Contains, flat_map}
use Rattle.std.specs.List.Sorted.{IsStrictlyIncreasing, IsBinarySearchResult}
use Rattle.std.specs.Ordering.{nat_cmp}
use Rattle.std.proofs.lemmas.Bool.{cases_eq, cases_lt}
use Rattle.std.proofs.lemmas.Bool.Decides.{nat_tests}
use Rattle.std.proofs.lemmas.List.{get_or_default}
use Rattle.std.proofs.lemmas.List.Sorted.{searched}
use Rattle.std.proofs.lemmas.Option.{none-some, same_Some}
use Rattle.wc_model.specs.declared.graphs.Step.{Step}
use Rattle.wc_model.specs.Cache.Ages.{Ages, IsSolution, IsMostPrecise, MayPrecise, may_accessed, aged, fetched, no_lines}
use Rattle.wc_mustmay.specs.Inner.Names.{lines_in, IsName}

-- Rising numbers are apart.
pub rises : (names : List ℕ) → IsStrictlyIncreasing names → (i n : ℕ) → i + suc n < length names → get_or names i 0 < get_or names (i + suc n) 0
rises names rising i zero within = let h = rising i within in let e : i + suc zero ≡ i + 1 = refl in h
rises names rising i (suc n) within =
    let first = rises names rising i n (omega arith) in
    let next = rising (i + suc n) (omega arith) in
    let e : i + suc (suc n) ≡ i + suc n + 1 = omega arith in
    omega (arith, first, next, ap (λ (k : ℕ). get_or names k 0) e)

pub apart : (names : List ℕ) → IsStrictlyIncreasing names → (i j : ℕ) → i < length names → j < length names → get_or names i 0 ≡ get_or names j 0 → i ≡ j
apart names rising i j fi fj same = ⊎_elim
    (λ (less : i < j). let e : i + suc (j - suc i) ≡ j = omega arith in absurd (omega (arith, same, rises names rising i (j - suc i) (omega (arith, e)), ap (λ (k : ℕ). get_or names k 0) e)))
    (λ (more : j ≤ i). ⊎_elim
    (λ (less : j < i). let e : j + suc (i - suc j) ≡ i = omega arith in absurd (omega (arith, same, rises names rising j (i - suc j) (omega (arith, e)), ap (λ (k : ℕ). get_or names k 0) e)))
    (λ (again : i ≤ j). omega arith)
    (cases_lt j i))
    (cases_lt i j)

-- The place of a line among the names, and their number where it has none.
abbrev pub place : List ℕ → ℕ → ℕ
place [] y = 0
place (n ∷ names) y = if n == y then 0 else suc (place names y)

found : (b : Bool) (n y : ℕ) (names : List ℕ) → (b ≡ true → n ≡ y) → get_or names (place names y) y ≡ y → get_or (n ∷ names) (if b then 0 else suc (place names y)) y ≡ y
found true n y names same later = same refl
found false n y names same later = later

equal : (n y : ℕ) → (n == y) ≡ true → n ≡ y
equal n y is = grind (arith, nat_tests)

pub place_back : (names : List ℕ) (y : ℕ) → get_or names (place names y) y ≡ y
place_back [] y = refl
place_back (n ∷ names) y = found (n == y) n y names (equal n y) (place_back names y)

unequal : (n y : ℕ) → n ≡ y → (n == y) ≡ false → ⊥
unequal n y is not = grind (arith, nat_tests)

place_test : (b : Bool) (n y : ℕ) (names : List ℕ) → (b ≡ false → place names y < length names) → (if b then 0 else suc (place names y)) < length (n ∷ names)
place_test true n y names later = omega arith
place_test false n y names later = omega (arith, later refl)

pub place_within : (names : List ℕ) (k y : ℕ) → k < length names → get_or names k 0 ≡ y → place names y < length names
place_within [] k y within is = absurd (omega arith)
place_within (n ∷ names) zero y within is = place_test (n == y) n y names (λ not. absurd (unequal n y is not))
place_within (n ∷ names) (suc k) y within is = place_test (n == y) n y names (λ _. place_within names k y (omega arith) is)

pub place_at : (names : List ℕ) → IsStrictlyIncreasing names → (k y : ℕ) → k < length names → get_or names k 0 ≡ y → place names y ≡ k
place_at names rising k y within is =
    let there : place names y < length names = place_within names k y within is in
    apart names rising (place names y) k there within (get_or_default names (place names y) 0 y there ∙ place_back names y ∙ sym is)

-- Ages by lines, from ages by names, and back.
abbrev pub by_line : List ℕ → Ages → Ages
by_line names a = record { ways = a.ways; age = λ y. a.age (place names y) }

abbrev by_name : List ℕ → ℕ → Ages → Ages
by_name names d a = record { ways = a.ways; age = λ k. a.age (get_or names k d) }

tests_alike : (y l m k : ℕ) → (y ≡ l → m ≡ k) → (m ≡ k → y ≡ l) → (y == l) ≡ (m == k)
tests_alike y l m k to from = ⊎_elim
    (λ (same : y ≡ l). let e : m ≡ k = to same in let r : (y == l) ≡ (m == k) = grind (arith, nat_tests) in r)
    (λ (other : y ≢ l). let e : m ≢ k = λ h. other (from h) in let r : (y == l) ≡ (m == k) = grind (arith, nat_tests) in r)
    (cases_eq y l)

aged_by_line : (names : List ℕ) → IsStrictlyIncreasing names → (limit : ℕ) (f : ℕ → ℕ) (l k y : ℕ) → k < length names → get_or names k 0 ≡ l → aged limit (λ z. f (place names z)) l y ≡ aged limit f k (place names y)
aged_by_line names rising limit f l k y within is =
    let at : place names l ≡ k = place_at names rising k l within is in
    let same : (y == l) ≡ (place names y == k) = tests_alike y l (place names y) k (λ (e : y ≡ l). ap (place names) e ∙ at)
    (λ (e : place names y ≡ k). sym (place_back names y) ∙ ap (λ (n : ℕ). get_or names n y) e ∙ get_or_default names k y 0 within ∙ is) in
    ap (λ (b : Bool). if b then 0 else (if nat_lt (f (place names y)) limit then f (place names y) + 1 else f (place names y))) same

at_line : (limit : ℕ) (f : ℕ → ℕ) (l y : ℕ) → y ≡ l → aged limit f l y ≡ 0
at_line limit f l y is = ap (λ (b : Bool). if b then 0 else (if nat_lt (f y) limit then f y + 1 else f y)) (let e : (y == l) ≡ true = grind (arith, nat_tests) in e)

below_grown : (b : Bool) (limit a : ℕ) → (if b then 0 else (if nat_lt a limit then a + 1 else a)) ≤ (if nat_lt a limit then a + 1 else a)
below_grown true limit a = omega arith
below_grown false limit a = omega arith

aged_not : (f : ℕ → ℕ) (limit l y : ℕ) → y ≢ l → aged limit f l y ≡ (if nat_lt (f y) limit then f y + 1 else f y)
aged_not f limit l y other = ap (λ (b : Bool). if b then 0 else (if nat_lt (f y) limit then f y + 1 else f y)) (let e : (y == l) ≡ false = grind (arith, nat_tests) in e)

aged_by_name : (limit : ℕ) (f n : ℕ → ℕ) (l k j : ℕ) → n k ≡ l → aged limit f l (n j) ≤ aged limit (λ z. f (n z)) k j
aged_by_name limit f n l k j is = ⊎_elim
    (λ (same : j ≡ k). let e : n j ≡ l = ap n same ∙ is in let r : aged limit f l (n j) ≤ aged limit (λ z. f (n z)) k j = omega (arith, at_line limit f l (n j) e) in r)
    (λ (other : j ≢ k). omega (arith, below_grown (n j == l) limit (f (n j)), aged_not (λ z. f (n z)) limit k j other))
    (cases_eq j k)

-- The code's ways to names.
contains_right : {X : Type 0} (xs ys : List X) (y : X) → Contains ys y → Contains (xs ++ ys) y
contains_right [] ys y among = among
contains_right (x ∷ xs) ys y among = let h = contains_right xs ys y among in (suc h.0, omega (arith, h.1), h.2)

first_line : (x : Option ℕ) (own : List (Option ℕ)) (line : ℕ) → x ≡ Some line → Contains (flat_map lines_in (x ∷ own)) line
first_line None own line is = absurd (none-some line is)
first_line (Some l) own line is = (0, omega arith, same_Some l line is)

pub among_lines : (own : List (Option ℕ)) (p line : ℕ) → get_or own p None ≡ Some line → Contains (flat_map lines_in own) line
among_lines [] p line is = absurd (none-some line is)
among_lines (x ∷ own) zero line is = first_line x own line is
among_lines (x ∷ own) (suc p) line is = contains_right (lines_in x) (flat_map lines_in own) line (among_lines own p line is)

one_line : (x : Option ℕ) → length (lines_in x) ≤ 1
one_line None = omega arith
one_line (Some l) = omega arith

pub few_lines : (own : List (Option ℕ)) → length (flat_map lines_in own) ≤ length own
few_lines [] = omega arith
few_lines (x ∷ own) = omega (arith, length-append (lines_in x) (flat_map lines_in own), one_line x, few_lines own)

low_high : (names : List ℕ) → IsStrictlyIncreasing names → (i j : ℕ) → i ≤ j → j < length names → get_or names i 0 ≤ get_or names j 0
low_high names rising i j low within = ⊎_elim
    (λ (less : i < j). let e : i + suc (j - suc i) ≡ j = omega arith in omega (arith, rises names rising i (j - suc i) (omega (arith, e)), ap (λ (k : ℕ). get_or names k 0) e))
    (λ (more : j ≤ i). let e : i ≡ j = omega arith in omega (arith, ap (λ (k : ℕ). get_or names k 0) e))
    (cases_lt i j)

pub not_found : (names : List ℕ) (line i : ℕ) → IsStrictlyIncreasing names → IsBinarySearchResult (λ y. nat_cmp y line) names (Err i) → Contains names line → ⊥
not_found names line i rising result among =
    let found_not = searched names line (Err i) result (low_high names rising) in
    let k : ℕ = among.0 in
    let is : get_or names k 0 ≡ line = get_or_default names k 0 line among.1 ∙ among.2 in
    ⊎_elim
    (λ (low : k < i). absurd (omega (arith, is, found_not.1 k low)))
    (λ (high : i ≤ k). absurd (omega (arith, is, found_not.2 k high among.1)))
    (cases_lt k i)

-- A solution over names.
module _ (names : List ℕ) (rising : IsStrictlyIncreasing names) (steps : List Step) (own named : List (Option ℕ)) (start ways : ℕ) (each : (p : ℕ) → IsName names (get_or own p None) (get_or named p None)) where
  fetch_line : (x name : Option ℕ) (a b : Ages) → IsName names x name → MayPrecise (fetched MayPrecise may_accessed name a) b → MayPrecise (fetched MayPrecise may_accessed x (by_line names a)) (by_line names b)
  fetch_line None name a b is less =
      let plain : MayPrecise a b = subst (λ (n : Option ℕ). MayPrecise (fetched MayPrecise may_accessed n a) b) is less in
      (plain.0, λ y. plain.1 (place names y))
  fetch_line (Some l) name a b is less =
      let k : ℕ = is.0 in
      let after : MayPrecise (may_accessed a k) b = subst (λ (n : Option ℕ). MayPrecise (fetched MayPrecise may_accessed n a) b) is.1 less in
      let limit : min (a.age (place names l) + 1) a.ways ≡ min (a.age k + 1) a.ways = ap (λ (n : ℕ). min (a.age n + 1) a.ways) (place_at names rising k l is.2 is.3) in (
        after.0,
        λ y.
            let same : aged (min (a.age (place names l) + 1) a.ways) (λ z. a.age (place names z)) l y ≡ aged (min (a.age k + 1) a.ways) a.age k (place names y) =
            ap (λ (n : ℕ). aged n (λ z. a.age (place names z)) l y) limit ∙ aged_by_line names rising (min (a.age k + 1) a.ways) a.age l k y is.2 is.3 in
            omega (arith, after.1 (place names y), same),
      )

  fetch_name : (d : ℕ) (x name : Option ℕ) (a b : Ages) → IsName names x name → MayPrecise (fetched MayPrecise may_accessed x a) b → MayPrecise (fetched MayPrecise may_accessed name (by_name names d a)) (by_name names d b)
  fetch_name d None name a b is less =
      subst (λ (n : Option ℕ). MayPrecise (fetched MayPrecise may_accessed n (by_name names d a)) (by_name names d b)) (sym is) (less.0, λ k. less.1 (get_or names k d))
  fetch_name d (Some l) name a b is less =
      let k : ℕ = is.0 in
      let at : get_or names k d ≡ l = get_or_default names k d 0 is.2 ∙ is.3 in
      let limit : min (a.age l + 1) a.ways ≡ min (a.age (get_or names k d) + 1) a.ways = ap (λ (n : ℕ). min (a.age n + 1) a.ways) (sym at) in
      subst (λ (n : Option ℕ). MayPrecise (fetched MayPrecise may_accessed n (by_name names d a)) (by_name names d b)) (sym is.1) (
        less.0,
        λ j.
            let below = aged_by_name (min (a.age l + 1) a.ways) a.age (λ z. get_or names z d) l k j at in
            let same : aged (min (a.age l + 1) a.ways) (λ z. a.age (get_or names z d)) k j ≡ aged (min (a.age (get_or names k d) + 1) a.ways) (λ z. a.age (get_or names z d)) k j = ap (λ (n : ℕ). aged n (λ z. a.age (get_or names z d)) k j) limit in
            omega (arith, less.1 (get_or names j d), below, same),
      )

  solves_by_name : (d : ℕ) (other : ℕ → Ages) → IsSolution MayPrecise may_accessed steps own start (no_lines ways) other → IsSolution MayPrecise may_accessed steps named start (no_lines ways) (λ p. by_name names d (other p))
  solves_by_name d other solves = record {
    begins = (solves.begins.0, λ k. solves.begins.1 (get_or names k d));
    along = λ s q among to. fetch_name d (get_or own s.source None) (get_or named s.source None) (other s.source) (other q) (each s.source) (solves.along s q among to);
  }

  pub most_by_line : (nodes : ℕ) (solution : ℕ → Ages) → IsMostPrecise MayPrecise may_accessed steps named start (no_lines ways) nodes solution
      → IsMostPrecise MayPrecise may_accessed steps own start (no_lines ways) nodes (λ p. by_line names (solution p))
  most_by_line nodes solution most = record {
    solves = record {
      begins = (most.solves.begins.0, λ y. most.solves.begins.1 (place names y));
      along = λ s q among to. fetch_line (get_or own s.source None) (get_or named s.source None) (solution s.source) (solution q) (each s.source) (most.solves.along s q among to);
    };
    least = λ other solves p within.
        let less = λ (d : ℕ). most.least (λ q. by_name names d (other q)) (solves_by_name d other solves) p within in
        ((less 0).0, λ y. omega (arith, (less y).1 (place names y), ap (other p).age (place_back names y)));
  }
