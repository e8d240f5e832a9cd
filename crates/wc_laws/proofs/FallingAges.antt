-- Tables of ages that fall, round by round, until a round changes none: the greatest ages that the steps allow.
use Rattle.std.proofs.Common.{ℕ, zero, suc, ◌≡◌, ◌<◌, ◌≤◌, ◌+◌, ◌==◌, ⊎_elim, Bool, true, false, min, if◌then◌else◌, List, [], ◌∷◌, Option, None, Some, get_or, refl, ap, subst, ◌∙◌, arith}
use Rattle.std.specs.List.{Contains}
use Rattle.std.proofs.lemmas.Bool.{cases_lt, eq-eqb, false≢true}
use Rattle.std.proofs.lemmas.Bool.Decides.{nat_tests}
use Rattle.wc_fix.proofs.RaisingLemmas.{contains_cons, contains_nothing}
use Rattle.wc_model.specs.declared.graphs.Step.{Step}
use Rattle.wc_model.specs.Cache.Ages.{Ages, MayPrecise, aged, fetched, may_accessed}

-- Sums.

abbrev pub total : (ℕ → ℕ) → ℕ → ℕ
total f zero = 0
total f (suc n) = total f n + f n

pub total_less : (f g : ℕ → ℕ) (n : ℕ) → ((k : ℕ) → k < n → g k ≤ f k) → total g n ≤ total f n
total_less f g zero less = omega arith
total_less f g (suc n) less = omega (arith, total_less f g n (λ k within. less k (omega (arith, within))), less n (omega arith))

-- what is at most as great, and as great in the whole, is as great everywhere
pub total_same : (f g : ℕ → ℕ) (n : ℕ) → ((k : ℕ) → k < n → g k ≤ f k) → total f n ≤ total g n → (k : ℕ) → k < n → f k ≤ g k
total_same f g zero less more k within = absurd (omega (arith, within))
total_same f g (suc n) less more k within = ⊎_elim
    (λ (below : k < n). total_same f g n (λ j low. less j (omega (arith, low))) (omega (arith, more, less n (omega arith))) k below)
    (λ (high : n ≤ k). subst (λ (j : ℕ). f j ≤ g j) (let same : n ≡ k = omega (arith, high, within) in same)
    (omega (arith, more, total_less f g n (λ j low. less j (omega (arith, low))))))
    (cases_lt k n)

-- Tests.

abbrev pub is_to : ℕ → Option ℕ → Bool
is_to q None = false
is_to q (Some t) = t == q

to_true : (q : ℕ) (o : Option ℕ) → o ≡ Some q → is_to q o ≡ true
to_true q o is = ap (is_to q) is ∙ eq-eqb q q refl

to_is : (q : ℕ) (o : Option ℕ) → is_to q o ≡ true → o ≡ Some q
to_is q None passes = absurd (false≢true passes)
to_is q (Some t) passes = ap Some (equal t q passes)
  where
    equal : (n y : ℕ) → (n == y) ≡ true → n ≡ y
    equal n y same = grind (arith, nat_tests)

if_less : (b : Bool) (m n k : ℕ) → n ≤ k → (if b then min m n else n) ≤ k
if_less true m n k less = omega (arith, less)
if_less false m n k less = less

if_first : (b : Bool) (m n : ℕ) → b ≡ true → (if b then min m n else n) ≤ m
if_first true m n passes = omega arith
if_first false m n passes = absurd (false≢true passes)

if_more : (b : Bool) (m n k : ℕ) → (b ≡ true → k ≤ m) → k ≤ n → k ≤ (if b then min m n else n)
if_more true m n k first rest = omega (arith, first refl, rest)
if_more false m n k first rest = rest

aged_more : (limit : ℕ) (f : ℕ → ℕ) (line y m : ℕ) → line < y → m ≤ f y → m ≤ aged limit f line y
aged_more limit f line y m other more = grind (arith, nat_tests)

-- Rounds.

abbrev pub Table : Type 0
Table = ℕ → ℕ → ℕ

module _ (ways : ℕ) where
  -- the ages at a node
  abbrev pub held : Table → ℕ → Ages
  held ages p = record { ways = ways; age = ages p }

  module _ (access : List (Option ℕ)) where
    abbrev pub brought : Table → Step → ℕ → ℕ
    brought ages s y = (fetched MayPrecise may_accessed (get_or access s.source None) (held ages s.source)).age y

    abbrev pub lowest : Table → ℕ → ℕ → List Step → ℕ
    lowest ages q y [] = ages q y
    lowest ages q y (s ∷ steps) = if is_to q s.target then min (brought ages s y) (lowest ages q y steps) else lowest ages q y steps

    pub lowest_falls : (ages : Table) (q y : ℕ) (steps : List Step) → lowest ages q y steps ≤ ages q y
    lowest_falls ages q y [] = omega arith
    lowest_falls ages q y (s ∷ steps) = if_less (is_to q s.target) (brought ages s y) (lowest ages q y steps) (ages q y) (lowest_falls ages q y steps)

    pub lowest_each : (ages : Table) (q y : ℕ) (steps : List Step) (s : Step) → Contains steps s → s.target ≡ Some q → lowest ages q y steps ≤ brought ages s y
    lowest_each ages q y [] s among to = absurd (contains_nothing s among)
    lowest_each ages q y (t ∷ steps) s among to = ⊎_elim
        (λ (same : t ≡ s). subst (λ (x : Step). lowest ages q y (t ∷ steps) ≤ brought ages x y) same
        (if_first (is_to q t.target) (brought ages t y) (lowest ages q y steps) (to_true q t.target (ap (λ (x : Step). x.target) same ∙ to))))
        (λ (later : Contains steps s). if_less (is_to q t.target) (brought ages t y) (lowest ages q y steps) (brought ages s y) (lowest_each ages q y steps s later to))
        (contains_cons t steps s among)

    pub lowest_most : (m : ℕ) (ages : Table) (q y : ℕ) (steps : List Step) → m ≤ ages q y → ((s : Step) → Contains steps s → s.target ≡ Some q → m ≤ brought ages s y) → m ≤ lowest ages q y steps
    lowest_most m ages q y [] less each = less
    lowest_most m ages q y (s ∷ steps) less each = if_more (is_to q s.target) (brought ages s y) (lowest ages q y steps) m
        (λ passes. each s (0, omega arith, refl) (to_is q s.target passes))
        (lowest_most m ages q y steps less (λ t among to. each t (suc among.0, omega (arith, among.1), among.2) to))

-- Lines that occur.

-- more than each line
abbrev pub above_lines : List (Option ℕ) → ℕ
above_lines [] = 0
above_lines (None ∷ access) = above_lines access
above_lines (Some line ∷ access) = suc line + above_lines access

above_each : (access : List (Option ℕ)) (p line : ℕ) → get_or access p None ≡ Some line → line < above_lines access
above_each [] p line is = cc
above_each (None ∷ access) zero line is = cc
above_each (Some l ∷ access) zero line is = let same : l ≡ line = ap (λ (x : Option ℕ). or_zero x) is in omega (arith, same)
  where
    or_zero : Option ℕ → ℕ
    or_zero None = 0
    or_zero (Some n) = n
above_each (None ∷ access) (suc p) line is = above_each access p line is
above_each (Some l ∷ access) (suc p) line is = omega (arith, above_each access p line is)

fetched_more : (ways : ℕ) (x : Option ℕ) (f : ℕ → ℕ) (y m : ℕ) → ((line : ℕ) → x ≡ Some line → line < y) → m ≤ f y → m ≤ (fetched MayPrecise may_accessed x (record { ways = ways; age = f })).age y
fetched_more ways None f y m other more = more
fetched_more ways (Some line) f y m other more = aged_more (min (f line + 1) ways) f line y m (other line refl) more

-- a line that doesn't occur isn't brought
pub absent_stays : (ways : ℕ) (access : List (Option ℕ)) (ages : Table) (s : Step) (y m : ℕ) → above_lines access ≤ y → m ≤ ages s.source y → m ≤ brought ways access ages s y
absent_stays ways access ages s y m high more =
    fetched_more ways (get_or access s.source None) (ages s.source) y m (λ line is. omega (arith, above_each access s.source line is, high)) more
