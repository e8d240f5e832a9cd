-- Which products and sums of a certificate leave the range of exact numbers, each sum added up in the order of its list.
use Rattle.std.specs.Prelude.{ℕ, ◌≡◌, ◌<◌, ◌==◌, true, ℤ, pos, ◌+ℤ◌, ◌-ℤ◌, ◌*ℤ◌, neg_ℤ, List, take, slice_get, Some, Contains}
use Rattle.wc_base.specs.Arithmetic.{InRange}
use Rattle.wc_base.specs.Sums.{sum_placed, chosen}
use Rattle.wc_model.specs.declared.flow_system.Ray.{Ray}
use Rattle.wc_model.specs.declared.flow_system.Solution.{Solution}
use Rattle.wc_model.specs.declared.flow_system.System.{System}
use Rattle.wc_model.specs.declared.flow_system.SystemLimit.{SystemLimit}
use Rattle.wc_model.specs.declared.flow_system.SystemLoop.{SystemLoop}
use Rattle.wc_model.specs.declared.flow_system.SystemStep.{SystemStep}
use Rattle.wc_model.specs.Flow.Certificates.{Prices, ahead_of, back_price, dual_value, entry_price, factor_of, ray_prices, scaled, solution_prices}
use Rattle.wc_model.specs.Flow.Counts.{cycles, entered, out_of}
use Rattle.wc_model.specs.Flow.Places.{is_listed, number_at}
use Rattle.wc_model.specs.Flow.Systems.{leads_to}

abbrev pub IsOut : ℤ → Type 0
IsOut z = InRange z → ⊥

-- a sum from a number on leaves the range after some of its terms
abbrev pub Leaves : {X : Type 0} → ℤ → (ℕ → X → ℤ) → List X → Type 0
Leaves begin f xs = (n : ℕ) × IsOut (begin +ℤ sum_placed f (take n xs))

-- what a step adds to the counts out of a node less those into it
abbrev pub balance : (ℕ → ℤ) → ℕ → ℕ → SystemStep → ℤ
balance x p i t = chosen (t.source == p) (x i) -ℤ chosen (leads_to t.target p) (x i)

module _ (s : System) where
  -- the rows of the counts
  pub data IsWideCount (den : ℤ) (x : ℕ → ℤ) : Type 0 where
    node : (p : ℕ) → p < s.nodes → Leaves (pos 0) (balance x p) s.steps → IsWideCount den x
    back : (l : SystemLoop) → Contains s.loops l → Leaves (pos 0) (λ _ i. x i) l.back → IsWideCount den x
    entry : (l : SystemLoop) → Contains s.loops l → Leaves (pos 0) (λ _ i. x i) l.entry → IsWideCount den x
    entries : (l : SystemLoop) → Contains s.loops l → IsOut (entered s.start den x l) → IsWideCount den x
    allowed : (l : SystemLoop) → Contains s.loops l → IsOut (pos l.bound *ℤ entered s.start den x l) → IsWideCount den x
    visits : (l : SystemLimit) (f : ℕ × ℤ) → Contains s.limits l → Contains l.factors f → Leaves (pos 0) (λ i t. chosen (t.source == f.0) (x i)) s.steps → IsWideCount den x
    visited : (l : SystemLimit) (f : ℕ × ℤ) → Contains s.limits l → Contains l.factors f → IsOut (f.1 *ℤ out_of s.steps x f.0) → IsWideCount den x
    limit : (l : SystemLimit) → Contains s.limits l → Leaves (pos 0) (λ _ f. f.1 *ℤ out_of s.steps x f.0) l.factors → IsWideCount den x
    constant : (l : SystemLimit) → Contains s.limits l → IsOut (l.constant *ℤ den) → IsWideCount den x

  -- the line of a step: its potentials, then the loops whose back step it is, those whose entry step it is, the limits
  pub data IsWidePrice (scale : ℤ) (prices : Prices) : Type 0 where
    cost : (i : ℕ) (t : SystemStep) → slice_get s.steps i ≡ Some t → IsOut (scaled scale t) → IsWidePrice scale prices
    step : (i : ℕ) (t : SystemStep) → slice_get s.steps i ≡ Some t → IsOut (prices.u t.source -ℤ ahead_of prices.u t.target) → IsWidePrice scale prices
    back : (i : ℕ) (t : SystemStep) → slice_get s.steps i ≡ Some t
        → Leaves (prices.u t.source -ℤ ahead_of prices.u t.target) (λ k l. chosen (is_listed i l.back) (prices.v k)) s.loops → IsWidePrice scale prices
    bound : (i k : ℕ) (l : SystemLoop) → slice_get s.loops k ≡ Some l → is_listed i l.entry ≡ true → IsOut (pos l.bound *ℤ prices.v k) → IsWidePrice scale prices
    entry : (i : ℕ) (t : SystemStep) → slice_get s.steps i ≡ Some t
        → Leaves ((prices.u t.source -ℤ ahead_of prices.u t.target) +ℤ back_price prices.v s.loops i) (λ k l. neg_ℤ (chosen (is_listed i l.entry) (pos l.bound *ℤ prices.v k))) s.loops → IsWidePrice scale prices
    factor : (i k : ℕ) (t : SystemStep) (l : SystemLimit) → slice_get s.steps i ≡ Some t → slice_get s.limits k ≡ Some l → IsOut (factor_of t.source l.factors *ℤ prices.w k) → IsWidePrice scale prices
    limit : (i : ℕ) (t : SystemStep) → slice_get s.steps i ≡ Some t
        → Leaves ((prices.u t.source -ℤ ahead_of prices.u t.target) +ℤ back_price prices.v s.loops i -ℤ entry_price prices.v s.loops i) (λ k l. factor_of t.source l.factors *ℤ prices.w k) s.limits → IsWidePrice scale prices

  -- the value of the prices
  pub data IsWideDual (prices : Prices) : Type 0 where
    bound : (k : ℕ) (l : SystemLoop) → slice_get s.loops k ≡ Some l → l.head ≡ s.start → IsOut (pos l.bound *ℤ prices.v k) → IsWideDual prices
    loops : Leaves (prices.u s.start) (λ k l. chosen (l.head == s.start) (pos l.bound *ℤ prices.v k)) s.loops → IsWideDual prices
    constant : (k : ℕ) (l : SystemLimit) → slice_get s.limits k ≡ Some l → IsOut (l.constant *ℤ prices.w k) → IsWideDual prices
    limits : Leaves (prices.u s.start +ℤ sum_placed (λ k l. chosen (l.head == s.start) (pos l.bound *ℤ prices.v k)) s.loops) (λ k l. l.constant *ℤ prices.w k) s.limits → IsWideDual prices

  pub data IsWideSolution (c : Solution) : Type 0 where
    counts : IsWideCount c.den (number_at c.x) → IsWideSolution c
    prices : IsWidePrice c.scale (solution_prices c) → IsWideSolution c
    dual : IsWideDual (solution_prices c) → IsWideSolution c
    cost : (i : ℕ) (t : SystemStep) → slice_get s.steps i ≡ Some t → IsOut (cycles t *ℤ number_at c.x i) → IsWideSolution c
    value : Leaves (pos 0) (λ i t. cycles t *ℤ number_at c.x i) s.steps → IsWideSolution c
    num : IsOut (c.num *ℤ c.scale) → IsWideSolution c
    den : IsOut (c.den *ℤ dual_value s (solution_prices c)) → IsWideSolution c

  pub data IsWideRay (c : Ray) : Type 0 where
    prices : IsWidePrice (pos 0) (ray_prices c) → IsWideRay c
    dual : IsWideDual (ray_prices c) → IsWideRay c
