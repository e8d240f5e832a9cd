-- A certificate, put together from its parts.
use Rattle.std.proofs.Common.{◌≡◌, ℕ, ◌<◌, ℤ, pos, ◌*ℤ◌, ◌≤ℤ◌, ◌<ℤ◌, ◌+ℤ◌, ◌⊎◌, List, length, slice_get, Option, Some, None, refl, sym, ap, subst, ⊎_elim, ◌∙◌, arith}
use Rattle.std.proofs.Math.IntN.{*ℤ-zero}
use Rattle.std.proofs.lemmas.Int.{ints}
use Rattle.std.proofs.lemmas.Option.{get_or_from_slice_get, slice_get_within}
use Rattle.std.specs.Prelude.{All, Contains}
use Rattle.wc_base.specs.Sums.{sum_placed}
use Rattle.wc_model.specs.declared.flow_system.Ray.{Ray}
use Rattle.wc_model.specs.declared.flow_system.Solution.{Solution}
use Rattle.wc_model.specs.declared.flow_system.System.{System}
use Rattle.wc_model.specs.declared.flow_system.SystemLimit.{SystemLimit}
use Rattle.wc_model.specs.declared.flow_system.SystemLoop.{SystemLoop}
use Rattle.wc_model.specs.declared.flow_system.SystemStep.{SystemStep}
use Rattle.wc_model.specs.Flow.Certificates.{Prices, RayHolds, SolutionHolds, dual_value, ray_prices, scaled, solution_prices, step_price}
use Rattle.wc_model.specs.Flow.Counts.{IsBounded, IsLimited, cycles, value_of}
use Rattle.wc_model.specs.Flow.Places.{number_at}
use Rattle.wc_dual.specs.Checks.{IsChecked}
use Rattle.wc_dual.specs.declared.checks.Check.{Check}
use Rattle.wc_dual.specs.declared.checks.Check.TheVariants.{Yes, No, TooWide}
use Rattle.wc_dual.specs.declared.prices.PriceLists.{PriceLists}
use Rattle.wc_dual.specs.Wide.{IsWideCount, IsWideDual, IsWidePrice, IsWideRay, IsWideSolution, Leaves, IsOut}
use Rattle.wc_dual.specs.Inner.Limits.{HasWideLimit, IsWideLimit, IsWideTerm}
use Rattle.wc_dual.specs.Inner.Lines.{ArePriced, Fit, listed}
use Rattle.wc_dual.specs.Inner.Passes.{IsSum}
use Rattle.wc_dual.specs.Inner.Values.{HasWideConstant, HasWideRound, HasWideValue, IsDual, constant_term, round_term, value_term}
use Rattle.wc_dual.specs.Inner.Parts.{AreBalanced, HasWideLoop, HasWideNode, IsWideLoop}
use Rattle.wc_dual.specs.Inner.Shapes.{AreCounts, AreEqual, AreFair, AreOfRay, AreOfSolution, IsShaped}

-- a part that doesn't say yes
pub pass_on : {Whole Part Wide WidePart : Type 0} (c : Check) → (c ≡ Yes → ⊥) → (Whole → Part) → (WidePart → Wide) → IsChecked Part WidePart c → IsChecked Whole Wide c
pass_on Yes other part wide is = absurd (other refl)
pass_on No other part wide is = λ whole. is (part whole)
pass_on TooWide other part wide is = wide is

-- what is too wide in the rows of the counts
module _ (s : System) (den : ℤ) (x : ℕ → ℤ) where
  pub wide_node : HasWideNode s x → IsWideCount s den x
  wide_node wide = IsWideCount.node wide.0 wide.1 wide.2

  from_loop : (l : SystemLoop) → Contains s.loops l → IsWideLoop s.start den x l → IsWideCount s den x
  from_loop l at (IsWideLoop.back leaves) = IsWideCount.back l at leaves
  from_loop l at (IsWideLoop.entry leaves) = IsWideCount.entry l at leaves
  from_loop l at (IsWideLoop.entries out) = IsWideCount.entries l at out
  from_loop l at (IsWideLoop.allowed out) = IsWideCount.allowed l at out

  pub wide_loop : HasWideLoop s den x → IsWideCount s den x
  wide_loop wide = from_loop wide.0 wide.1 wide.2

  contains : {X : Type 0} (xs : List X) (k : ℕ) (y : X) → slice_get xs k ≡ Some y → Contains xs y
  contains xs k y at = (k, slice_get_within xs k y at, get_or_from_slice_get xs k y y at)

  from_term : (l : SystemLimit) (f : ℕ × ℤ) → Contains s.limits l → Contains l.factors f → IsWideTerm s.steps x f → IsWideCount s den x
  from_term l f at named (IsWideTerm.visits leaves) = IsWideCount.visits l f at named leaves
  from_term l f at named (IsWideTerm.product out) = IsWideCount.visited l f at named out

  from_limit : (l : SystemLimit) → Contains s.limits l → IsWideLimit s.steps den x l → IsWideCount s den x
  from_limit l at (IsWideLimit.term wide) = from_term l wide.1 at (contains l.factors wide.0 wide.1 wide.2) wide.3
  from_limit l at (IsWideLimit.sum leaves) = IsWideCount.limit l at leaves
  from_limit l at (IsWideLimit.constant out) = IsWideCount.constant l at out

  pub wide_limit : HasWideLimit s den x → IsWideCount s den x
  wide_limit wide = from_limit wide.0 wide.1 wide.2

-- the last part of the rows
pub counts_end : (s : System) (den : ℤ) (x : ℕ → ℤ) → AreBalanced s den x s.nodes → All (IsBounded s.start den x) s.loops → (r : Check)
    → IsChecked (All (IsLimited s.steps den x) s.limits) (HasWideLimit s den x) r → IsChecked (AreCounts s den x) (IsWideCount s den x) r
counts_end s den x flow bounded Yes limited = (flow, bounded, limited)
counts_end s den x flow bounded No not = λ counts. not counts.2
counts_end s den x flow bounded TooWide wide = wide_limit s den x wide

-- The value of prices.
pub dual_out : (s : System) (prices : Prices) (loops : List SystemLoop) → loops ≡ s.loops → HasWideRound s.start loops prices.v ⊎ Leaves (prices.u s.start) (round_term s.start prices.v) loops → IsWideDual s prices
dual_out s prices loops same out = ⊎_elim
    (λ wide. let there = subst (λ ls. HasWideRound s.start ls prices.v) same wide in IsWideDual.bound there.0 there.1 there.2 there.3.0 there.3.1)
    (λ leaves. IsWideDual.loops (subst (Leaves (prices.u s.start) (round_term s.start prices.v)) same leaves)) out

pub dual_end : (s : System) (prices : Prices) (loops : List SystemLoop) (limits : List SystemLimit) → loops ≡ s.loops → limits ≡ s.limits → (sum passed : ℤ) → passed ≡ sum
    → sum ≡ prices.u s.start +ℤ sum_placed (round_term s.start prices.v) loops → (r : Option ℤ) → IsSum (HasWideConstant limits prices.w) passed (constant_term prices.w) limits r → IsDual s prices r
dual_end s prices loops limits by_loops by_limits sum passed same is (Some z) value =
    value ∙ ap (λ y. y +ℤ sum_placed (constant_term prices.w) limits) (same ∙ is ∙ ap (λ ls. prices.u s.start +ℤ sum_placed (round_term s.start prices.v) ls) by_loops)
    ∙ ap (λ ls. prices.u s.start +ℤ sum_placed (round_term s.start prices.v) s.loops +ℤ sum_placed (constant_term prices.w) ls) by_limits
dual_end s prices loops limits by_loops by_limits sum passed same is None out = ⊎_elim
    (λ wide. let there = subst (λ ls. HasWideConstant ls prices.w) by_limits wide in IsWideDual.constant there.0 there.1 there.2 there.3)
    (λ leaves. IsWideDual.limits (subst (λ y. Leaves y (constant_term prices.w) s.limits) (same ∙ is ∙ ap (λ ls. prices.u s.start +ℤ sum_placed (round_term s.start prices.v) ls) by_loops)
    (subst (Leaves passed (constant_term prices.w)) by_limits leaves))) out

-- The prices of a certificate, as lists.
module _ (s : System) (p : PriceLists) where
  pub all_priced : (prices : Prices) (scale : ℤ) → listed p ≡ prices → ArePriced s (listed p) scale 0 (length s.steps) → (i : ℕ) (t : SystemStep) → slice_get s.steps i ≡ Some t → scaled scale t ≤ℤ step_price s prices i t
  all_priced prices scale same priced i t at = subst (λ ps. scaled scale t ≤ℤ step_price s ps i t) same (priced i t (omega arith) (slice_get_within s.steps i t at) at)

  fair : (v w : List ℤ) → p.v.now ≡ v → p.w.now ≡ w → Fit s p → ((k : ℕ) → k < length s.loops → pos 0 ≤ℤ number_at v k) → ((k : ℕ) → k < length s.limits → pos 0 ≤ℤ number_at w k) → AreFair s p
  fair v w by_v by_w fit loops limits = (
    fit,
    λ k below. subst (λ zs. pos 0 ≤ℤ number_at zs k) (sym by_v) (loops k (omega (arith, below, fit.loops))),
    λ k below. subst (λ zs. pos 0 ≤ℤ number_at zs k) (sym by_w) (limits k (omega (arith, below, fit.limits))),
  )

-- The value of counts.
pub value_out : (s : System) (c : Solution) (steps : List SystemStep) (x : List ℤ) → steps ≡ s.steps → x ≡ c.x → HasWideValue steps (number_at x) ⊎ Leaves (pos 0) (value_term (number_at x)) steps → IsWideSolution s c
value_out s c steps x by_steps by_x out = ⊎_elim
    (λ wide. let there = subst (λ zs. HasWideValue s.steps (number_at zs)) by_x (subst (λ ts. HasWideValue ts (number_at x)) by_steps wide) in IsWideSolution.cost there.0 there.1 there.2 there.3)
    (λ leaves. IsWideSolution.value (subst (λ zs. Leaves (pos 0) (value_term (number_at zs)) s.steps) by_x (subst (Leaves (pos 0) (value_term (number_at x))) by_steps leaves))) out

pub value_is : (s : System) (c : Solution) (steps : List SystemStep) (x : List ℤ) → steps ≡ s.steps → x ≡ c.x → (value : ℤ) → value ≡ pos 0 +ℤ sum_placed (value_term (number_at x)) steps
    → value ≡ value_of cycles s.steps (number_at c.x)
value_is s c steps x by_steps by_x value is = is ∙ from_zero (sum_placed (value_term (number_at x)) steps)
    ∙ ap (λ ts. sum_placed (value_term (number_at x)) ts) by_steps ∙ ap (λ zs. sum_placed (value_term (number_at zs)) s.steps) by_x
  where
    from_zero : (z : ℤ) → pos 0 +ℤ z ≡ z
    from_zero z = omega (arith, ints)

module _ (s : System) (c : Solution) (p : PriceLists) (of : AreOfSolution c p) where
  pub same_prices : listed p ≡ solution_prices c
  same_prices = ap (λ zs. let ps : Prices = record { u = number_at zs; v = number_at p.v.now; w = number_at p.w.now } in ps) of.0
      ∙ ap (λ zs. let ps : Prices = record { u = number_at c.u; v = number_at zs; w = number_at p.w.now } in ps) of.1
      ∙ ap (λ zs. let ps : Prices = record { u = number_at c.u; v = number_at c.v; w = number_at zs } in ps) of.2

  pub fair_of : SolutionHolds s c → AreFair s p
  fair_of holds = fair s p c.v c.w of.1 of.2 (record { nodes = ap length of.0 ∙ holds.nodes; loops = ap length of.1 ∙ holds.loops; limits = ap length of.2 ∙ holds.limits })
      holds.prices.loops_some holds.prices.limits_some

  pub shaped_of : SolutionHolds s c → IsShaped s c
  shaped_of holds = (holds.counts, (λ i below. holds.feasible.some i (omega (arith, below, holds.counts))), holds.feasible.whole, holds.scale)

  pub counts_of : SolutionHolds s c → AreCounts s c.den (number_at c.x)
  counts_of holds = (holds.feasible.balanced, holds.feasible.bounded, holds.feasible.limited)

  pub priced_of : SolutionHolds s c → ArePriced s (listed p) c.scale 0 (length s.steps)
  priced_of holds i t from to at = subst (λ ps. scaled c.scale t ≤ℤ step_price s ps i t) (sym same_prices) (holds.prices.steps i t at)

  pub equal_of : SolutionHolds s c → AreEqual s c
  equal_of holds = (holds.value, holds.dual)

  pub holds : IsShaped s c → AreFair s p → AreCounts s c.den (number_at c.x) → ArePriced s (listed p) c.scale 0 (length s.steps) → AreEqual s c → SolutionHolds s c
  holds shaped fairly counts priced equal = record {
    counts = shaped.0;
    nodes = ap length (sym of.0) ∙ fairly.0.nodes;
    loops = ap length (sym of.1) ∙ fairly.0.loops;
    limits = ap length (sym of.2) ∙ fairly.0.limits;
    scale = shaped.3;
    feasible = record {
      whole = shaped.2;
      some = λ i below. shaped.1 i (omega (arith, below, shaped.0));
      balanced = counts.0;
      bounded = counts.1;
      limited = counts.2;
    };
    prices = record {
      loops_some = λ k below. subst (λ zs. pos 0 ≤ℤ number_at zs k) of.1 (fairly.1 k (omega (arith, below, fairly.0.loops)));
      limits_some = λ k below. subst (λ zs. pos 0 ≤ℤ number_at zs k) of.2 (fairly.2 k (omega (arith, below, fairly.0.limits)));
      steps = all_priced s p (solution_prices c) c.scale same_prices priced;
    };
    value = equal.0;
    dual = equal.1;
  }

  -- the last part
  pub solution_end : IsShaped s c → AreFair s p → AreCounts s c.den (number_at c.x) → ArePriced s (listed p) c.scale 0 (length s.steps) → (r : Check) → IsChecked (AreEqual s c) (IsWideSolution s c) r
      → IsChecked (SolutionHolds s c) (IsWideSolution s c) r
  solution_end shaped fairly counts priced Yes equal = holds shaped fairly counts priced equal
  solution_end shaped fairly counts priced No differ = λ whole. differ (equal_of whole)
  solution_end shaped fairly counts priced TooWide wide = wide

  pub wide_counts : IsWideCount s c.den (number_at c.x) → IsWideSolution s c
  wide_counts wide = IsWideSolution.counts wide

  pub wide_prices : IsWidePrice s c.scale (listed p) → IsWideSolution s c
  wide_prices wide = IsWideSolution.prices (subst (IsWidePrice s c.scale) same_prices wide)

  pub den_out : (dual : ℤ) → dual ≡ dual_value s (listed p) → IsOut (c.den *ℤ dual) → IsWideSolution s c
  den_out dual is out = IsWideSolution.den (subst (λ z. IsOut (c.den *ℤ z)) (is ∙ ap (dual_value s) same_prices) out)

  pub wide_dual : IsWideDual s (listed p) → IsWideSolution s c
  wide_dual wide = IsWideSolution.dual (subst (IsWideDual s) same_prices wide)

module _ (s : System) (c : Ray) (p : PriceLists) (of : AreOfRay c p) where
  pub same_ray : listed p ≡ ray_prices c
  same_ray = ap (λ zs. let ps : Prices = record { u = number_at zs; v = number_at p.v.now; w = number_at p.w.now } in ps) of.0
      ∙ ap (λ zs. let ps : Prices = record { u = number_at c.u; v = number_at zs; w = number_at p.w.now } in ps) of.1
      ∙ ap (λ zs. let ps : Prices = record { u = number_at c.u; v = number_at c.v; w = number_at zs } in ps) of.2

  pub ray_fair : RayHolds s c → AreFair s p
  ray_fair holds = fair s p c.v c.w of.1 of.2 (record { nodes = ap length of.0 ∙ holds.nodes; loops = ap length of.1 ∙ holds.loops; limits = ap length of.2 ∙ holds.limits })
      holds.prices.loops_some holds.prices.limits_some

  pub ray_priced : RayHolds s c → ArePriced s (listed p) (pos 0) 0 (length s.steps)
  ray_priced holds i t from to at = subst (λ ps. scaled (pos 0) t ≤ℤ step_price s ps i t) (sym same_ray)
      (subst (λ z. z ≤ℤ step_price s (ray_prices c) i t) (sym (*ℤ-zero (cycles t))) (holds.prices.steps i t at))

  pub ray_below : RayHolds s c → dual_value s (listed p) <ℤ pos 0
  ray_below holds = subst (λ ps. dual_value s ps <ℤ pos 0) (sym same_ray) holds.below

  pub ray_holds : AreFair s p → ArePriced s (listed p) (pos 0) 0 (length s.steps) → dual_value s (listed p) <ℤ pos 0 → RayHolds s c
  ray_holds fairly priced below = record {
    nodes = ap length (sym of.0) ∙ fairly.0.nodes;
    loops = ap length (sym of.1) ∙ fairly.0.loops;
    limits = ap length (sym of.2) ∙ fairly.0.limits;
    prices = record {
      loops_some = λ k near. subst (λ zs. pos 0 ≤ℤ number_at zs k) of.1 (fairly.1 k (omega (arith, near, fairly.0.loops)));
      limits_some = λ k near. subst (λ zs. pos 0 ≤ℤ number_at zs k) of.2 (fairly.2 k (omega (arith, near, fairly.0.limits)));
      steps = λ i t at. subst (λ z. z ≤ℤ step_price s (ray_prices c) i t) (*ℤ-zero (cycles t)) (all_priced s p (ray_prices c) (pos 0) same_ray priced i t at);
    };
    below = subst (λ ps. dual_value s ps <ℤ pos 0) same_ray below;
  }

  pub ray_wide_prices : IsWidePrice s (pos 0) (listed p) → IsWideRay s c
  ray_wide_prices wide = IsWideRay.prices (subst (IsWidePrice s (pos 0)) same_ray wide)

  pub ray_wide_dual : IsWideDual s (listed p) → IsWideRay s c
  ray_wide_dual wide = IsWideRay.dual (subst (IsWideDual s) same_ray wide)
