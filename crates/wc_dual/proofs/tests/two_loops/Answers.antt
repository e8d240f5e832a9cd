use Rattle.std.proofs.Common.{◌≡◌, ℕ, ℤ, zero, suc, ◌<◌, List, [], ◌∷◌, ◌++◌, length, map, pos, slice_index_or, refl, sym, ap₂, subst, ◌∙◌, arith, rules}
use Rattle.std.specs.Prelude.{All, IfSome}
use Rattle.wc_model.specs.declared.flow_system.System.{System}
use Rattle.wc_model.specs.declared.flow_system.SystemLimit.{SystemLimit}
use Rattle.wc_model.specs.declared.flow_system.SystemLoop.{SystemLoop}
use Rattle.wc_model.specs.declared.flow_system.SystemStep.{SystemStep}
use Rattle.wc_model.specs.Flow.Systems.{ArePlaces, IsSystem, IsSystemLoop, named_by}
use Rattle.wc_dual.specs.declared.tests.TheConstants.{STEPS}
use Rattle.wc_dual.proofs.tests.two_loops.Goals as goal

sources : (k : ℕ) (d : SystemStep) → k < 4 → (slice_index_or STEPS k d).source < 2
sources zero d h = omega arith
sources (suc zero) d h = omega arith
sources (suc (suc zero)) d h = omega arith
sources (suc (suc (suc zero))) d h = omega arith
sources (suc (suc (suc (suc k)))) d h = absurd (omega arith)

targets : (k : ℕ) (d : SystemStep) → k < 4 → IfSome (slice_index_or STEPS k d).target (λ q. q < 2)
targets zero d h = omega arith
targets (suc zero) d h = omega arith
targets (suc (suc zero)) d h = omega arith
targets (suc (suc (suc zero))) d h = tt
targets (suc (suc (suc (suc k)))) d h = absurd (omega arith)

-- a single place
single : (count n : ℕ) → n < count → ArePlaces count (n ∷ [])
single count n below = (at, (refl, tt))
  where
    at : (k : ℕ) (d : ℕ) → k < 1 → slice_index_or (n ∷ []) k d < count
    at zero d h = below
    at (suc k) d h = absurd (omega arith)

abbrev outer : SystemLoop
outer = record { head = 0; bound = 1; back = 2 ∷ []; entry = [] }

abbrev inner : SystemLoop
inner = record { head = 1; bound = 2; back = 1 ∷ []; entry = 0 ∷ [] }

module _ (s : System) (nodes : s.nodes ≡ 2) (steps : length s.steps ≡ 4) where
  is_outer : IsSystemLoop s outer
  is_outer = record { head = omega (arith, nodes); bound = omega arith; back = single (length s.steps) 2 (omega (arith, steps)); entry = ((λ k d h. absurd (omega (arith, h))), tt) }

  is_inner : IsSystemLoop s inner
  is_inner = record { head = omega (arith, nodes); bound = omega arith; back = single (length s.steps) 1 (omega (arith, steps)); entry = single (length s.steps) 0 (omega (arith, steps)) }

  are_loops : All (IsSystemLoop s) (outer ∷ inner ∷ [])
  are_loops zero d h = is_outer
  are_loops (suc zero) d h = is_inner
  are_loops (suc (suc k)) d h = absurd (omega (arith, h))

  are_limits : (limits : List SystemLimit) → All (λ l. l.factors ≡ (1, pos 1) ∷ []) limits → All (λ l. ArePlaces s.nodes (named_by l)) limits
  are_limits limits each k d h = subst (λ (fs : List (ℕ × ℤ)). ArePlaces s.nodes (map (λ f. f.0) fs)) (sym (each k d h)) (single s.nodes 1 (omega (arith, nodes)))

is_system : (steps : List SystemStep) (loops : List SystemLoop) (limits : List SystemLimit) → steps ≡ STEPS → loops ≡ outer ∷ inner ∷ []
    → All (λ l. l.factors ≡ (1, pos 1) ∷ []) limits → IsSystem (record { nodes = 2; steps = steps; start = 0; loops = loops; limits = limits })
is_system steps loops limits by_steps by_loops each =
    subst (λ ts. IsSystem (record { nodes = 2; steps = ts; start = 0; loops = loops; limits = limits })) (sym by_steps)
    (subst (λ ls. IsSystem (record { nodes = 2; steps = STEPS; start = 0; loops = ls; limits = limits })) (sym by_loops)
    (let s : System = record { nodes = 2; steps = STEPS; start = 0; loops = outer ∷ inner ∷ []; limits = limits } in
    record { start = omega arith; sources = sources; targets = targets; loops = are_loops s refl refl; limits = are_limits s refl refl limits each }))

pub returns : goal.returns
returns c =
    let steps : c.new.result ≡ STEPS = search rules in
    let first : c.in_ok-outer.outer ≡ outer = c.in_ok-outer.ensures in
    let second : c.in_ok-inner.inner ≡ inner = c.in_ok-inner.ensures in
    let pushed : c.push.new.self.items ≡ outer ∷ [] = c.in_ok-push.ensures.items ∙ ap₂ (λ ls l. ls ++ l ∷ []) c.new-loops.ensures.items first in
    let loops : c.new-2.result ≡ outer ∷ inner ∷ [] = c.new-2.ensures ∙ c.in_ok-push-2.ensures.items ∙ ap₂ (λ ls l. ls ++ l ∷ []) pushed second in
    let each : All (λ l. l.factors ≡ (1, pos 1) ∷ []) c.in_ok-limits.limits.items = c.in_ok-limits.ensures in
    is_system _ _ _ steps loops (subst (All (λ (l : SystemLimit). l.factors ≡ (1, pos 1) ∷ [])) (sym c.new-3.ensures) each)
