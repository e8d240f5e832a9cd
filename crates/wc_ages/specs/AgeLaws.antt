-- Why must and may are lawful: smaller ages stay smaller where fewer of them grow.
use Rattle.std.proofs.Common.{ℕ, ◌≡◌, ◌≤◌, ◌+◌, ◌==◌, Bool, true, false, min, if◌then◌else◌, refl, sym, ap, ◌∙◌, subst, arith}
use Rattle.std.specs.Prelude.{nat_lt}
use Rattle.std.proofs.lemmas.Bool.Decides.{nat_tests}
use Rattle.wc_model.specs.Cache.Ages.{Ages, MustPrecise, MayPrecise, aged, must_accessed, may_accessed}

-- an age that grows where it is below the limit
abbrev pub grown : ℕ → ℕ → ℕ
grown limit a = if nat_lt a limit then a + 1 else a

pub grown_keeps : (l k a b : ℕ) → l ≤ k → a ≤ b → grown l a ≤ grown k b
grown_keeps l k a b lk ab = grind (arith, nat_tests)

pub aged_keeps : (l k : ℕ) (f g : ℕ → ℕ) (line y : ℕ) → l ≤ k → ((z : ℕ) → f z ≤ g z) → aged l f line y ≤ aged k g line y
aged_keeps l k f g line y lk fg = elim (y == line) as (λ b. (if b then 0 else grown l (f y)) ≤ (if b then 0 else grown k (g y))) [ true ↦ omega arith | false ↦ grown_keeps l k (f y) (g y) lk (fg y) ]

pub must_refl : (a : Ages) → MustPrecise a a
must_refl a = (refl, λ y. omega arith)

pub must_trans : (a b c : Ages) → MustPrecise a b → MustPrecise b c → MustPrecise a c
must_trans a b c ab bc = (ab.0 ∙ bc.0, λ y. omega (arith, ab.1 y, bc.1 y))

pub must_keeps : (a b : Ages) (line : ℕ) → MustPrecise a b → MustPrecise (must_accessed a line) (must_accessed b line)
must_keeps a b line p = (p.0, λ y. aged_keeps (a.age line) (b.age line) a.age b.age line y (p.1 line) p.1)

pub may_refl : (a : Ages) → MayPrecise a a
may_refl a = (refl, λ y. omega arith)

pub may_trans : (a b c : Ages) → MayPrecise a b → MayPrecise b c → MayPrecise a c
may_trans a b c ab bc = (ab.0 ∙ bc.0, λ y. omega (arith, ab.1 y, bc.1 y))

limits : (a b v w : ℕ) → a ≤ b → v ≡ w → min (a + 1) v ≤ min (b + 1) w
limits a b v w less same = omega (arith, same)

pub may_keeps : (a b : Ages) (line : ℕ) → MayPrecise a b → MayPrecise (may_accessed a line) (may_accessed b line)
may_keeps a b line p = (p.0, λ y. aged_keeps (min (b.age line + 1) b.ways) (min (a.age line + 1) a.ways) b.age a.age line y (limits (b.age line) (a.age line) b.ways a.ways (p.1 line) (sym p.0)) p.1)
