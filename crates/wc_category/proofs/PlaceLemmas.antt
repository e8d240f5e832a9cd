-- The place of a line in one set of the cache is an age, and a fetch changes it as `aged` says.
use Rattle.std.proofs.Common.{◌≡◌, ℕ, zero, suc, ◌+◌, ◌<◌, ◌≤◌, ◌⊎◌, ⊎_elim, inl, inr, min, Bool, true, false, ◌==◌, ◌&&◌, ◌||◌, nat_lt, if◌then◌else◌, List, [], ◌∷◌, length, take, refl, ap, sym, ◌∙◌, arith}
use Rattle.std.proofs.lemmas.Bool.{cases_lt, eqb-false, true≢false}
use Rattle.std.proofs.lemmas.Bool.Decides.{nat_tests}
use Rattle.std.proofs.lemmas.List.{length-take}
use Rattle.wc_model.specs.Cache.Ages.{aged}
use Rattle.wc_model.specs.Cache.Lru.{has_line, line_fetched, without}

-- how many lines of the set are younger, or `ways` where the line isn't among the first `ways`
abbrev pub place_in : ℕ → List ℕ → ℕ → ℕ
place_in zero lines y = 0
place_in (suc ways) [] y = suc ways
place_in (suc ways) (l ∷ lines) y = if l == y then 0 else suc (place_in ways lines y)

abbrev pub grown : ℕ → ℕ → ℕ
grown limit a = if nat_lt a limit then a + 1 else a

pub place_le : (ways : ℕ) (lines : List ℕ) (y : ℕ) → place_in ways lines y ≤ ways
place_le zero lines y = omega arith
place_le (suc ways) [] y = omega arith
place_le (suc ways) (l ∷ lines) y = elim (l == y) as (λ b. (if b then 0 else suc (place_in ways lines y)) ≤ suc ways) [ true ↦ omega arith | false ↦ omega (arith, place_le ways lines y) ]

place_nil : (ways y : ℕ) → place_in ways [] y ≡ ways
place_nil zero y = refl
place_nil (suc ways) y = refl

place_take : (ways : ℕ) (lines : List ℕ) (y : ℕ) → place_in ways (take ways lines) y ≡ place_in ways lines y
place_take zero lines y = refl
place_take (suc ways) [] y = refl
place_take (suc ways) (l ∷ lines) y = ap (λ n. if l == y then 0 else suc n) (place_take ways lines y)

-- a line of the set has its place below `ways`
pub has_place : (ways : ℕ) (lines : List ℕ) (y : ℕ) → length lines ≤ ways → has_line lines y ≡ nat_lt (place_in ways lines y) ways
has_place zero [] y few = refl
has_place zero (l ∷ lines) y few = absurd (omega arith)
has_place (suc ways) [] y few = grind (arith, nat_tests)
has_place (suc ways) (l ∷ lines) y few =
    let later : has_line lines y ≡ nat_lt (place_in ways lines y) ways = has_place ways lines y (omega arith) in
    elim (l == y) as (λ b. (b || has_line lines y) ≡ nat_lt (if b then 0 else suc (place_in ways lines y)) (suc ways)) [ true ↦ grind (arith, nat_tests) | false ↦ later ∙ one_less (place_in ways lines y) ways ]
  where
    one_less : (a b : ℕ) → nat_lt a b ≡ nat_lt (suc a) (suc b)
    one_less a b = grind (arith, nat_tests)

-- two lines at one place are one
place_same : (ways : ℕ) (lines : List ℕ) (x y : ℕ) → place_in ways lines x ≡ place_in ways lines y → place_in ways lines x < ways → x ≡ y
place_same zero lines x y same below = absurd (omega arith)
place_same (suc ways) [] x y same below = absurd (omega arith)
place_same (suc ways) (l ∷ lines) x y same below = same_head l (l == x) (l == y) (place_in ways lines x) (place_in ways lines y) refl refl (place_same ways lines x y) same below
  where
    same_head : (z : ℕ) (b d : Bool) (px py : ℕ) → (z == x) ≡ b → (z == y) ≡ d → (px ≡ py → px < ways → x ≡ y) → (if b then 0 else suc px) ≡ (if d then 0 else suc py) → (if b then 0 else suc px) < suc ways → x ≡ y
    same_head z true true px py is_x is_y later same below = grind (arith, nat_tests)
    same_head z true false px py is_x is_y later same below = absurd (omega arith)
    same_head z false true px py is_x is_y later same below = absurd (omega arith)
    same_head z false false px py is_x is_y later same below = later (omega arith) (omega arith)

-- The other lines of a fetch.
pull : (b : Bool) (f : List ℕ → ℕ) (p q : List ℕ) → f (if b then p else q) ≡ (if b then f p else f q)
pull true f p q = refl
pull false f p q = refl

apart_tests : (x y z : ℕ) → (y == x) ≡ false → ((z == x) && (z == y)) ≡ false
apart_tests x y z apart = grind (arith, nat_tests)

shifted : (b d : Bool) (n px py : ℕ) → suc n ≡ grown px py → (b && d) ≡ false → suc (if b then py else (if d then 0 else suc n)) ≡ grown (if b then 0 else suc px) (if d then 0 else suc py)
shifted true true n px py is apart = absurd (true≢false apart)
shifted true false n px py is apart = grind (arith, nat_tests)
shifted false true n px py is apart = grind (arith, nat_tests)
shifted false false n px py is apart = grind (arith, nat_tests, is)

first_shifted : (b d : Bool) → (b && d) ≡ false → suc 0 ≡ grown (if b then 0 else suc 0) (if d then 0 else suc 0)
first_shifted true true apart = absurd (true≢false apart)
first_shifted true false apart = refl
first_shifted false true apart = refl
first_shifted false false apart = refl

others_grow : (ways : ℕ) (x y : ℕ) (lines : List ℕ) → (y == x) ≡ false → suc (place_in ways (without x lines) y) ≡ grown (place_in (suc ways) lines x) (place_in (suc ways) lines y)
others_grow ways x y [] apart = rw (place_nil ways y) (grind (arith, nat_tests))
others_grow zero x y (l ∷ lines) apart = first_shifted (l == x) (l == y) (apart_tests x y l apart)
others_grow (suc ways) x y (l ∷ lines) apart =
    ap suc (pull (l == x) (λ ls. place_in (suc ways) ls y) lines (l ∷ without x lines))
    ∙ shifted (l == x) (l == y) (place_in ways (without x lines) y) (place_in (suc ways) lines x) (place_in (suc ways) lines y) (others_grow ways x y lines apart) (apart_tests x y l apart)

both : (b : Bool) (m n : ℕ) → (b ≡ false → m ≡ n) → (if b then 0 else m) ≡ (if b then 0 else n)
both true m n same = refl
both false m n same = same refl

same_test : (x y : ℕ) → (x == y) ≡ (y == x)
same_test x y = grind (arith, nat_tests)

-- a fetch ages the lines of a set
pub place_fetched : (ways line y : ℕ) (lines : List ℕ) → place_in ways (line_fetched ways line lines) y ≡ aged (place_in ways lines line) (place_in ways lines) line y
place_fetched zero line y lines = sym (same_if (y == line))
  where
    same_if : (b : Bool) → (if b then 0 else zero) ≡ zero
    same_if true = refl
    same_if false = refl
place_fetched (suc ways) line y lines =
    ap (λ b. if b then 0 else suc (place_in ways (take ways (without line lines)) y)) (same_test line y)
    ∙ both (y == line) _ _ (λ apart. ap suc (place_take ways (without line lines) y) ∙ others_grow ways line y lines apart)

limits : (ways px py : ℕ) → px ≤ ways → py ≤ ways → ((px ≡ py → ⊥) ⊎ (ways ≤ px)) → grown px py ≡ grown (min (px + 1) ways) py
limits ways px py x_le y_le (inl apart) = grind (arith, nat_tests)
limits ways px py x_le y_le (inr above) = grind (arith, nat_tests)

-- in a set the lines at most as old as one are itself and the younger ones
pub limit_same : (ways line y : ℕ) (lines : List ℕ) → aged (place_in ways lines line) (place_in ways lines) line y ≡ aged (min (place_in ways lines line + 1) ways) (place_in ways lines) line y
limit_same ways line y lines = both (y == line) _ _ (λ apart. limits ways (place_in ways lines line) (place_in ways lines y) (place_le ways lines line) (place_le ways lines y) (differ apart))
  where
    differ : (y == line) ≡ false → ((place_in ways lines line ≡ place_in ways lines y → ⊥) ⊎ (ways ≤ place_in ways lines line))
    differ apart = ⊎_elim (λ below. inl (λ same. eqb-false y line apart (sym (place_same ways lines line y same below)))) (λ above. inr above) (cases_lt (place_in ways lines line) ways)

pub short_fetched : (ways line : ℕ) (lines : List ℕ) → length (line_fetched ways line lines) ≤ ways
short_fetched ways line lines = omega (arith, length-take ways (line ∷ without line lines))
