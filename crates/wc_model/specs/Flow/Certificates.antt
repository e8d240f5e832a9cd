-- Prices that bound every feasible count, by the duality of linear programs, and what it is that a certificate holds.
use Rattle.std.specs.Prelude.{ℕ, ◌≡◌, ℤ, pos, ◌+ℤ◌, ◌-ℤ◌, ◌*ℤ◌, ◌≤ℤ◌, ◌<ℤ◌, ◌<◌, ◌==◌, if◌then◌else◌, List, [], ◌∷◌, length, slice_get, Option, None, Some}
use Rattle.wc_base.specs.Sums.{sum_placed, chosen}
use Rattle.wc_model.specs.declared.flow_system.Ray.{Ray}
use Rattle.wc_model.specs.declared.flow_system.Solution.{Solution}
use Rattle.wc_model.specs.declared.flow_system.System.{System}
use Rattle.wc_model.specs.declared.flow_system.SystemLimit.{SystemLimit}
use Rattle.wc_model.specs.declared.flow_system.SystemLoop.{SystemLoop}
use Rattle.wc_model.specs.declared.flow_system.SystemStep.{SystemStep}
use Rattle.wc_model.specs.Flow.Counts.{IsFeasible, value_of, cycles}
use Rattle.wc_model.specs.Flow.Places.{number_at, is_listed}

-- a potential per node, a price per loop and a price per limit
pub record Prices : Type 0 where
  pub u : ℕ → ℤ
  pub v : ℕ → ℤ
  pub w : ℕ → ℤ

-- the potential where a step leads, 0 at the exit
abbrev pub ahead_of : (ℕ → ℤ) → Option ℕ → ℤ
ahead_of u None = pos 0
ahead_of u (Some q) = u q

-- what the loops say of the step at place `i`: the prices of those whose back step it is, and bound times the
-- prices of those whose entry step it is
abbrev pub back_price : (ℕ → ℤ) → List SystemLoop → ℕ → ℤ
back_price v loops i = sum_placed (λ k l. chosen (is_listed i l.back) (v k)) loops

abbrev pub entry_price : (ℕ → ℤ) → List SystemLoop → ℕ → ℤ
entry_price v loops i = sum_placed (λ k l. chosen (is_listed i l.entry) (pos l.bound *ℤ v k)) loops

-- the factor of a node, 0 where it isn't named
abbrev pub factor_of : ℕ → List (ℕ × ℤ) → ℤ
factor_of p [] = pos 0
factor_of p (f ∷ fs) = if f.0 == p then f.1 else factor_of p fs

abbrev pub limit_price : (ℕ → ℤ) → List SystemLimit → ℕ → ℤ
limit_price w limits p = sum_placed (λ k l. factor_of p l.factors *ℤ w k) limits

abbrev pub step_price : System → Prices → ℕ → SystemStep → ℤ
step_price s prices i t = (prices.u t.source -ℤ ahead_of prices.u t.target) +ℤ back_price prices.v s.loops i -ℤ entry_price prices.v s.loops i +ℤ limit_price prices.w s.limits t.source

abbrev pub dual_value : System → Prices → ℤ
dual_value s prices = prices.u s.start +ℤ sum_placed (λ k l. chosen (l.head == s.start) (pos l.bound *ℤ prices.v k)) s.loops +ℤ sum_placed (λ k l. l.constant *ℤ prices.w k) s.limits

-- no price of a loop or a limit is negative, and each step is worth at least its cost
pub record ArePrices (s : System) (cost : SystemStep → ℤ) (prices : Prices) : Type 0 where
  pub loops_some : (k : ℕ) → k < length s.loops → pos 0 ≤ℤ prices.v k
  pub limits_some : (k : ℕ) → k < length s.limits → pos 0 ≤ℤ prices.w k
  pub steps : (i : ℕ) (t : SystemStep) → slice_get s.steps i ≡ Some t → cost t ≤ℤ step_price s prices i t

abbrev pub scaled : ℤ → SystemStep → ℤ
scaled scale t = cycles t *ℤ scale

abbrev pub free : SystemStep → ℤ
free t = pos 0

-- What a solution holds: counts of the value num / den, and prices over `scale` of the same value.
abbrev pub solution_prices : Solution → Prices
solution_prices c = record { u = number_at c.u; v = number_at c.v; w = number_at c.w }

pub record SolutionHolds (s : System) (c : Solution) : Type 0 where
  pub counts : length c.x ≡ length s.steps
  pub nodes : length c.u ≡ s.nodes
  pub loops : length c.v ≡ length s.loops
  pub limits : length c.w ≡ length s.limits
  pub scale : pos 0 <ℤ c.scale
  pub feasible : IsFeasible s c.den (number_at c.x)
  pub prices : ArePrices s (scaled c.scale) (solution_prices c)
  pub value : value_of cycles s.steps (number_at c.x) ≡ c.num
  pub dual : c.num *ℤ c.scale ≡ c.den *ℤ dual_value s (solution_prices c)

-- What a ray holds: prices of a value below 0, where no step costs anything.
abbrev pub ray_prices : Ray → Prices
ray_prices c = record { u = number_at c.u; v = number_at c.v; w = number_at c.w }

pub record RayHolds (s : System) (c : Ray) : Type 0 where
  pub nodes : length c.u ≡ s.nodes
  pub loops : length c.v ≡ length s.loops
  pub limits : length c.w ≡ length s.limits
  pub prices : ArePrices s free (ray_prices c)
  pub below : dual_value s (ray_prices c) <ℤ pos 0

-- num / den is the optimum: counts have this value, and prices show that none have a greater one.
pub record IsOptimum (s : System) (num den : ℤ) : Type 0 where
  pub x : ℕ → ℤ
  pub feasible : IsFeasible s den x
  pub value : value_of cycles s.steps x ≡ num
  pub scale : ℤ
  pub whole : pos 0 <ℤ scale
  pub prices : Prices
  pub priced : ArePrices s (scaled scale) prices
  pub dual : num *ℤ scale ≡ den *ℤ dual_value s prices

-- the floor of the optimum
pub record IsBound (s : System) (bound : ℕ) : Type 0 where
  pub num : ℤ
  pub den : ℤ
  pub optimum : IsOptimum s num den
  pub least : (pos bound *ℤ den) ≤ℤ num
  pub most : num <ℤ ((pos bound +ℤ pos 1) *ℤ den)
