-- Must and may hold of one set, and of the whole cache, after a fetch as before it.
use Rattle.std.proofs.Common.{◌≡◌, ℕ, zero, suc, ◌+◌, ◌≤◌, min, true, false, ◌==◌, nat_lt, if◌then◌else◌, List, [], length, refl, ◌∙◌, arith}
use Rattle.std.proofs.lemmas.Bool.{lt-ltb, le-ltb, ltb-true, ltb-false}
use Rattle.std.proofs.lemmas.Bool.Decides.{nat_tests}
use Rattle.wc_model.specs.declared.machine.Cache.{Cache}
use Rattle.wc_model.specs.Cache.Ages.{Ages, MayPrecise, MustPrecise, Sets, accessed_in, aged, everywhere, may_accessed, must_accessed, no_lines}
use Rattle.wc_model.specs.Cache.Lines.{line_of, set_of}
use Rattle.wc_model.specs.Cache.Lru.{Held, cache_fetched, has_line, line_fetched}
use Rattle.wc_category.proofs.PlaceLemmas.{grown, has_place, limit_same, place_fetched, place_in, place_le}

-- what a cache holds, as ages
abbrev pub ages_of : ℕ → List ℕ → Ages
ages_of ways lines = record { ways = ways; age = place_in ways lines }

abbrev pub held_ages : Cache → Held → Sets
held_ages cache held s = ages_of cache.ways (held s)

-- greater ages and a greater limit give greater ages
grown_keeps : (l k a b : ℕ) → l ≤ k → a ≤ b → grown l a ≤ grown k b
grown_keeps l k a b lk ab = grind (arith, nat_tests)

aged_keeps : (l k : ℕ) (f g : ℕ → ℕ) (line y : ℕ) → l ≤ k → ((z : ℕ) → f z ≤ g z) → aged l f line y ≤ aged k g line y
aged_keeps l k f g line y lk fg = elim (y == line) as (λ b. (if b then 0 else grown l (f y)) ≤ (if b then 0 else grown k (g y))) [ true ↦ omega arith | false ↦ grown_keeps l k (f y) (g y) lk (fg y) ]

pub must_trans : (a b c : Ages) → MustPrecise a b → MustPrecise b c → MustPrecise a c
must_trans a b c p q = (p.0 ∙ q.0, λ y. omega (arith, p.1 y, q.1 y))

pub may_trans : (a b c : Ages) → MayPrecise a b → MayPrecise b c → MayPrecise a c
may_trans a b c p q = (p.0 ∙ q.0, λ y. omega (arith, p.1 y, q.1 y))

pub must_fetched : (ways line : ℕ) (lines : List ℕ) (a : Ages) → MustPrecise (ages_of ways lines) a → MustPrecise (ages_of ways (line_fetched ways line lines)) (must_accessed a line)
must_fetched ways line lines a p = (p.0, λ y. rw (place_fetched ways line y lines) (aged_keeps (place_in ways lines line) (a.age line) (place_in ways lines) a.age line y (p.1 line) p.1))

pub may_fetched : (ways line : ℕ) (lines : List ℕ) (a : Ages) → MayPrecise (ages_of ways lines) a → MayPrecise (ages_of ways (line_fetched ways line lines)) (may_accessed a line)
may_fetched ways line lines a p = (p.0, λ y. rw (place_fetched ways line y lines, limit_same ways line y lines) (aged_keeps (min (a.age line + 1) a.ways) (min (place_in ways lines line + 1) ways) a.age (place_in ways lines) line y (omega (arith, p.0, p.1 line)) p.1))

pub must_first : (ways : ℕ) (lines : List ℕ) → MustPrecise (ages_of ways lines) (no_lines ways)
must_first ways lines = (refl, λ y. place_le ways lines y)

pub may_first : (ways : ℕ) (lines : List ℕ) → lines ≡ [] → MayPrecise (ages_of ways lines) (no_lines ways)
may_first ways lines none = (refl, λ y. rw none (absent ways y))
  where
    absent : (ways y : ℕ) → ways ≤ place_in ways [] y
    absent zero y = omega arith
    absent (suc ways) y = omega arith

-- what the states say of the line that is fetched
pub must_told : (ways line : ℕ) (lines : List ℕ) (a : Ages) → length lines ≤ ways → MustPrecise (ages_of ways lines) a → nat_lt (a.age line) a.ways ≡ true → has_line lines line ≡ true
must_told ways line lines a few p is = has_place ways lines line few ∙ lt-ltb (place_in ways lines line) ways (omega (arith, p.0, p.1 line, ltb-true (a.age line) a.ways is))

pub may_told : (ways line : ℕ) (lines : List ℕ) (a : Ages) → length lines ≤ ways → MayPrecise (ages_of ways lines) a → nat_lt (a.age line) a.ways ≡ false → has_line lines line ≡ false
may_told ways line lines a few p is = has_place ways lines line few ∙ le-ltb (place_in ways lines line) ways (omega (arith, p.0, p.1 line, ltb-false (a.age line) a.ways is))

-- the whole cache
pub sets_fetched : (precise : Ages → Ages → Type 0) (accessed : Ages → ℕ → Ages) → ((ways line : ℕ) (lines : List ℕ) (a : Ages) → precise (ages_of ways lines) a → precise (ages_of ways (line_fetched ways line lines)) (accessed a line)) → (cache : Cache) (held : Held) (pc : ℕ) (a : Sets) → everywhere precise (held_ages cache held) a → everywhere precise (held_ages cache (cache_fetched cache pc held)) (accessed_in accessed cache.sets a (line_of cache pc))
sets_fetched precise accessed keeps cache held pc a p s =
    elim (s == set_of cache pc) as (λ b. precise (ages_of cache.ways (if b then line_fetched cache.ways (line_of cache pc) (held s) else held s)) (if b then accessed (a s) (line_of cache pc) else a s)) [ true ↦ keeps cache.ways (line_of cache pc) (held s) (a s) (p s) | false ↦ p s ]
