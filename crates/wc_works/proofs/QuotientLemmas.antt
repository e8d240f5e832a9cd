-- The floor of the optimum is a bound.
use Rattle.std.proofs.Common.{ℕ, zero, suc, ◌≡◌, ◌+◌, ◌*◌, ◌/◌, ◌<◌, ◌≤◌, ℤ, pos, negsuc, ◌+ℤ◌, ◌*ℤ◌, ◌≤ℤ◌, ◌<ℤ◌, List, [], ◌∷◌, length, sym, ap, subst, ◌⊎◌, ⊎_elim, arith}
use Rattle.std.specs.Prelude.{unsigned_abs}
use Rattle.std.proofs.Math.IntN.{*ℤ-zero, pos-*ℤ-pos}
use Rattle.std.proofs.Math.Nat.{le-div_iff_mul-le}
use Rattle.std.proofs.lemmas.Bool.{cases_lt}
use Rattle.std.proofs.lemmas.Int.{ints}
use Rattle.wc_base.proofs.Products.{monotone}
use Rattle.wc_model.specs.declared.flow_system.Solution.{Solution}
use Rattle.wc_model.specs.declared.flow_system.System.{System}
use Rattle.wc_model.specs.declared.flow_system.SystemStep.{SystemStep}
use Rattle.wc_model.specs.Flow.Certificates.{IsBound, SolutionHolds, solution_prices}
use Rattle.wc_model.specs.Flow.Counts.{cycles, value_of}
use Rattle.wc_model.specs.Flow.Places.{number_at}

-- The quotient of whole numbers.

pub floor_least : (num den : ℤ) → pos 0 ≤ℤ num → pos 0 <ℤ den → (pos (unsigned_abs num / unsigned_abs den) *ℤ den) ≤ℤ num
floor_least (pos n) (pos zero) some whole = absurd (omega (arith, ints, whole))
floor_least (pos n) (pos (suc d)) some whole =
    let q : ℕ = n / suc d in
    let most : q * suc d ≤ n = (le-div_iff_mul-le {k = suc d} {x = q} {y = n} (omega arith)).0 (omega arith) in
    omega (arith, ints, pos-*ℤ-pos q (suc d), most)
floor_least (pos n) (negsuc d) some whole = absurd (omega (arith, ints, whole))
floor_least (negsuc n) den some whole = absurd (omega (arith, ints, some))

pub floor_most : (num den : ℤ) → pos 0 ≤ℤ num → pos 0 <ℤ den → num <ℤ ((pos (unsigned_abs num / unsigned_abs den) +ℤ pos 1) *ℤ den)
floor_most (pos n) (pos zero) some whole = absurd (omega (arith, ints, whole))
floor_most (pos n) (pos (suc d)) some whole =
    let q : ℕ = n / suc d in
    let less : n < (q + 1) * suc d = ⊎_elim
    (λ (is : n < (q + 1) * suc d). is)
    (λ (other : (q + 1) * suc d ≤ n). absurd (omega (arith, (le-div_iff_mul-le {k = suc d} {x = q + 1} {y = n} (omega arith)).1 other)))
    (cases_lt n ((q + 1) * suc d)) in
    omega (arith, ints, pos-*ℤ-pos (q + 1) (suc d), less)
floor_most (pos n) (negsuc d) some whole = absurd (omega (arith, ints, whole))
floor_most (negsuc n) den some whole = absurd (omega (arith, ints, some))

-- A solution's value isn't negative.

value_some : (steps : List SystemStep) (x : ℕ → ℤ) → ((i : ℕ) → i < length steps → pos 0 ≤ℤ x i) → pos 0 ≤ℤ value_of cycles steps x
value_some [] x some = omega (arith, ints)
value_some (t ∷ ts) x some =
    omega (arith, ints, *ℤ-zero (pos t.cost), monotone (pos t.cost) (pos 0) (x 0) (omega (arith, ints)) (some 0 (omega arith)), value_some ts (λ i. x (suc i)) (λ i less. some (suc i) (omega arith)))

pub value_least : (s : System) (c : Solution) → SolutionHolds s c → pos 0 ≤ℤ c.num
value_least s c holds = subst (λ z. pos 0 ≤ℤ z) holds.value (value_some s.steps (number_at c.x) holds.feasible.some)

pub bound_is : (s : System) (c : Solution) (bound : ℕ) → SolutionHolds s c → (pos bound *ℤ c.den) ≤ℤ c.num → c.num <ℤ ((pos bound +ℤ pos 1) *ℤ c.den) → IsBound s bound
bound_is s c bound holds least most =
    record {
      num = c.num;
      den = c.den;
      optimum = record {
        x = number_at c.x;
        feasible = holds.feasible;
        value = holds.value;
        scale = c.scale;
        whole = holds.scale;
        prices = solution_prices c;
        priced = holds.prices;
        dual = holds.dual;
      };
      least = least;
      most = most;
    }
