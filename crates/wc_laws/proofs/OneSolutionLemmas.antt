-- The bound is one: two solutions that hold have one value, by the duality of linear programs, and the row machine has
-- one outcome.
use Rattle.std.proofs.Common.{ℕ, ◌≡◌, ◌<◌, ◌≤◌, ℤ, pos, ◌+ℤ◌, ◌*ℤ◌, ◌≤ℤ◌, ◌<ℤ◌, ⊎_elim, Ok, Err, refl, sym, ap, subst, ◌∙◌, arith}
use Rattle.std.proofs.Math.IntN.{*ℤ_comm}
use Rattle.std.proofs.lemmas.Bool.{cases_lt}
use Rattle.std.proofs.lemmas.Int.{ints}
use Rattle.wc_base.specs.declared.faults.Fault.{Fault}
use Rattle.wc_base.proofs.Products.{assoc, exchange, monotone, spread_left, times_one}
use Rattle.wc_base.proofs.SumLemmas.{sum_same, sum_scale}
use Rattle.wc_model.specs.declared.flow_system.Solution.{Solution}
use Rattle.wc_model.specs.declared.flow_system.System.{System}
use Rattle.wc_model.specs.Flow.Certificates.{IsBound, IsOptimum, dual_value, scaled}
use Rattle.wc_model.specs.Flow.Counts.{cycles, value_of}
use Rattle.wc_model.specs.Flow.RowResults.{RowOutcome, solved, row_outcome, IsRowOutcome}
use Rattle.wc_model.specs.Workspace.Phases.{BoundOf, IsRefusal, too_wide, too_many, infeasible, SolutionOf, whole, limited, refused, After}
use Rattle.wc_dual.proofs.DualityLemmas.{certificates_bound}
use Rattle.wc_dual.specs.Laws.{HasPlaces}
use Rattle.wc_laws.proofs.FloorLemmas.{cancel_right}
use Rattle.wc_laws.proofs.OnePhaseLemmas.{IsOne, after_one}

-- Two optima.

-- the same counts, at a multiple of the costs
value_scaled : (s : System) (scale : ℤ) (x : ℕ → ℤ) → value_of (scaled scale) s.steps x ≡ scale *ℤ value_of cycles s.steps x
value_scaled s scale x =
    sum_same (λ i t. (cycles t *ℤ scale) *ℤ x i) (λ i t. scale *ℤ (cycles t *ℤ x i)) s.steps
    (λ i t at. ap (λ z. z *ℤ x i) (*ℤ_comm (cycles t) scale) ∙ assoc scale (cycles t) (x i))
    ∙ sum_scale scale (λ i t. cycles t *ℤ x i) s.steps

-- num / den is at most the value of any other prices
module _ (s : System) (places : HasPlaces s) (num den other_num other_den : ℤ) where
  at_most : IsOptimum s num den → IsOptimum s other_num other_den → (other_den *ℤ num) ≤ℤ (den *ℤ other_num)
  at_most o other =
      let value : ℤ = dual_value s other.prices in
      let paid : (other.scale *ℤ num) ≤ℤ (den *ℤ value) = subst (λ z. z ≤ℤ (den *ℤ value)) (value_scaled s other.scale o.x ∙ ap (λ z. other.scale *ℤ z) o.value)
      (certificates_bound s (scaled other.scale) other.prices den o.x places other.priced o.feasible) in
      let more : (other_den *ℤ (other.scale *ℤ num)) ≤ℤ (other_den *ℤ (den *ℤ value)) =
      monotone other_den (other.scale *ℤ num) (den *ℤ value) (omega (arith, ints, other.feasible.whole)) paid in
      let left : other_den *ℤ (other.scale *ℤ num) ≡ other.scale *ℤ (other_den *ℤ num) = exchange other_den other.scale num in
      let right : other_den *ℤ (den *ℤ value) ≡ other.scale *ℤ (den *ℤ other_num) =
      exchange other_den den value ∙ ap (λ z. den *ℤ z) (sym other.dual ∙ *ℤ_comm other_num other.scale) ∙ exchange den other.scale other_num in
      cancel_right other.scale (other_den *ℤ num) (den *ℤ other_num) other.whole
      (omega (arith, ints, more, left, right, *ℤ_comm other.scale (other_den *ℤ num), *ℤ_comm other.scale (den *ℤ other_num)))

-- The floor of the optimum.
positive_product : (c d : ℤ) → pos 0 <ℤ c → pos 0 <ℤ d → pos 0 ≤ℤ (c *ℤ d)
positive_product c d some more =
    omega (arith, ints, monotone c (pos 0) d (omega (arith, ints, some)) (omega (arith, ints, more)), *ℤ_comm c (pos 0), zero_times c)
  where
    zero_times : (z : ℤ) → pos 0 *ℤ z ≡ pos 0
    zero_times z = omega (arith, ints)

module _ (s : System) (places : HasPlaces s) where
  not_above : (m n : ℕ) → IsBound s m → IsBound s n → n < m → ⊥
  not_above m n is also more =
      let best : (also.den *ℤ is.num) ≤ℤ (is.den *ℤ also.num) = at_most s places is.num is.den also.num also.den is.optimum also.optimum in
      let low : (also.den *ℤ (pos m *ℤ is.den)) ≤ℤ (also.den *ℤ is.num) = monotone also.den (pos m *ℤ is.den) is.num (omega (arith, ints, also.optimum.feasible.whole)) is.least in
      let top : ((also.num +ℤ pos 1)) ≤ℤ ((pos n +ℤ pos 1) *ℤ also.den) = omega (arith, ints, also.most) in
      let high : (is.den *ℤ (also.num +ℤ pos 1)) ≤ℤ (is.den *ℤ ((pos n +ℤ pos 1) *ℤ also.den)) = monotone is.den (also.num +ℤ pos 1) ((pos n +ℤ pos 1) *ℤ also.den) (omega (arith, ints, is.optimum.feasible.whole)) top in
      let both : ℤ = is.den *ℤ also.den in
      let some : pos 0 ≤ℤ both = positive_product is.den also.den is.optimum.feasible.whole also.optimum.feasible.whole in
      let rises : (both *ℤ (pos n +ℤ pos 1)) ≤ℤ (both *ℤ pos m) = monotone both (pos n +ℤ pos 1) (pos m) some (omega (arith, ints, more)) in
      let first : also.den *ℤ (pos m *ℤ is.den) ≡ both *ℤ pos m = ap (λ z. also.den *ℤ z) (*ℤ_comm (pos m) is.den) ∙ exchange also.den is.den (pos m) ∙ sym (assoc is.den also.den (pos m)) in
      let last : is.den *ℤ ((pos n +ℤ pos 1) *ℤ also.den) ≡ both *ℤ (pos n +ℤ pos 1) = ap (λ z. is.den *ℤ z) (*ℤ_comm (pos n +ℤ pos 1) also.den) ∙ sym (assoc is.den also.den (pos n +ℤ pos 1)) in
      let spread : is.den *ℤ (also.num +ℤ pos 1) ≡ is.den *ℤ also.num +ℤ is.den *ℤ pos 1 = spread_left is.den also.num (pos 1) in
      omega (arith, ints, best, low, high, rises, first, last, spread, times_one is.den, is.optimum.feasible.whole)

  bound_once : (m n : ℕ) → IsBound s m → IsBound s n → m ≡ n
  bound_once m n is also = ⊎_elim
      (λ (less : m < n). absurd (not_above n m also is less))
      (λ (high : n ≤ m). ⊎_elim
      (λ (more : n < m). absurd (not_above m n is also more))
      (λ (low : m ≤ n). omega arith)
      (cases_lt n m))
      (cases_lt m n)

  pub bound_one : IsOne (BoundOf s)
  bound_one (Ok m) (Ok n) is also = ap (λ (b : ℕ). Ok b) (bound_once m n is also)
  bound_one (Ok m) (Err f) is also = absurd also
  bound_one (Err f) r is also = absurd is

-- The row machine is a function of the system.
row_once : (s : System) (a b : RowOutcome) → IsRowOutcome s a → IsRowOutcome s b → a ≡ b
row_once s a b (most, is_most, is) (other, is_other, also) = sym is ∙ ap (λ (n : ℕ). row_outcome n s) (is_most ∙ sym is_other) ∙ also

no_refusal : (found : Solution) (f : Fault) → IsRefusal (solved found) f → ⊥
no_refusal found f refusal = elim refusal [ ]

refusal_once : {o : RowOutcome} {f g : Fault} → IsRefusal o f → IsRefusal o g → f ≡ g
refusal_once too_wide too_wide = refl
refusal_once too_many too_many = refl
refusal_once infeasible infeasible = refl

module _ (s : System) where
  pub solution_apart : (c : Solution) (f : Fault) → SolutionOf s (Ok c) → SolutionOf s (Err f) → ⊥
  solution_apart c f (whole _ none holds is_whole) (refused outcome _ some row refusal) = some none
  solution_apart c f (limited _ found some is holds) (refused outcome _ also row refusal) =
      no_refusal found f (subst (λ (o : RowOutcome). IsRefusal o f) (row_once s outcome (solved found) row is) refusal)

  pub fault_once : (f g : Fault) → SolutionOf s (Err f) → SolutionOf s (Err g) → f ≡ g
  fault_once f g (refused a _ some is refusal) (refused b _ also row other) =
      refusal_once refusal (subst (λ (o : RowOutcome). IsRefusal o g) (row_once s b a row is) other)

  pub solved_one : HasPlaces s → IsOne (After (SolutionOf s) (λ solution. BoundOf s))
  solved_one places = after_one (SolutionOf s) (λ solution. BoundOf s) solution_apart fault_once (λ a b first other. bound_one s places)
