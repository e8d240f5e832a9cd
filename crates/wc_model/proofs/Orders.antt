-- What an order of the reached nodes shows.
use Rattle.std.proofs.Common.{ℕ, zero, suc, ◌≡◌, ◌+◌, ◌<◌, ◌≤◌, List, [], ◌∷◌, Option, None, Some, IfSome, IsSome, All, refl, sym, ap, subst, arith}
use Rattle.std.specs.List.{Contains, slice_get}
use Rattle.std.proofs.lemmas.List.Elements.{All-contains, All-weaker, All-contains_itself}
use Rattle.wc_model.specs.declared.flow_system.SystemStep.{SystemStep}
use Rattle.wc_model.specs.Flow.Ends.{Ends, system_ends}
use Rattle.wc_model.specs.Flow.Walks.{AreSteps, Joins, LeadsOn, IsOrdered, IsOrder, IsWalk, IsBest, HasStep, IsCostFrom}
use Rattle.wc_model.specs.Program.Reaching.{Reaches, here, along}
use Rattle.wc_model.proofs.Places.{contains_from_get, get_from_contains}

module _ (Leads : ℕ → Option ℕ → Type 0) (order : List ℕ) (ordered : IsOrdered Leads order) where
  -- what a node reaches stands no later
  back : (j r : ℕ) {q : ℕ} → slice_get order j ≡ Some r → Reaches Leads r q → (k : ℕ) × (k ≤ j) × (slice_get order k ≡ Some q)
  back j r at here = (j, omega arith, at)
  back j r at (along {q = m} t way step) =
      let before = back j r at way in
      let found = ordered.earlier before.0 m t before.2 step in
      (found.0, omega (arith, before.1, found.1), found.2)

  pub no_cycle : (p : ℕ) → Contains order p → LeadsOn Leads p p → ⊥
  no_cycle p among led =
      let placed : (i : ℕ) × (slice_get order i ≡ Some p) = get_from_contains order p among in
      let again = back placed.0 p placed.1 led.1 in
      let next = ordered.earlier again.0 led.0 p again.2 led.2 in
      let one : next.0 ≡ placed.0 = ordered.once next.0 placed.0 p next.2 placed.1 in
      omega (arith, again.1, next.1)

module _ (steps : List SystemStep) (order : List ℕ) (ordered : IsOrdered (Joins system_ends steps) order) where
  -- where each node of the order has a step, a walk leads from each to the end
  module _ (has : (p : ℕ) → Contains order p → HasStep steps p) where
    step_through : (i p : ℕ) (s : SystemStep) (target : Option ℕ) → ((j q : ℕ) → j < i → slice_get order j ≡ Some q → (walk : List SystemStep) × IsWalk steps (Some q) walk) → slice_get order i ≡ Some p → Contains steps s → s.source ≡ p → s.target ≡ target → (walk : List SystemStep) × IsWalk steps (Some p) walk
    step_through i p s None earlier at among from to = (s ∷ [], (among, ap Some (sym from), to))
    step_through i p s (Some q) earlier at among from to =
        let next = ordered.earlier i p q at (s, among, from, to) in
        let rest = earlier next.0 q next.1 next.2 in
        (s ∷ rest.0, (among, ap Some (sym from), subst (λ (x : Option ℕ). IsWalk steps x rest.0) (sym to) rest.1))

    walk_through : (n i p : ℕ) → i < n → slice_get order i ≡ Some p → (walk : List SystemStep) × IsWalk steps (Some p) walk
    walk_through zero i p less at = absurd (omega arith)
    walk_through (suc n) i p less at =
        let out = has p (contains_from_get order i p at) in
        step_through i p out.0 out.0.target (λ j q before at_q. walk_through n j q (omega arith) at_q) at out.1 out.2 refl

is_some : (best : Option ℕ) (b : ℕ) → best ≡ Some b → IsSome best
is_some best b is = subst (λ (o : Option ℕ). IsSome o) (sym is) refl

pub reached_known : {S : Type 0} (ends : S → Ends) (nodes : ℕ) (steps : List S) (start : ℕ) {p : ℕ} → AreSteps ends nodes steps → start < nodes → Reaches (Joins ends steps) start p → p < nodes
reached_known ends nodes steps start fine known here = known
reached_known {S} ends nodes steps start fine known (along r way (s, among, from, to)) = rw to at (All-contains (λ (t : S). IfSome (ends t).target (λ q. q < nodes)) steps s fine.targets among)

pub order_inside : (nodes : ℕ) (steps : List SystemStep) (start : ℕ) (order : List ℕ) → AreSteps system_ends nodes steps → start < nodes → IsOrder (Joins system_ends steps) start order → All (λ p. p < nodes) order
order_inside nodes steps start order fine known of = All-weaker (Contains order) (λ (p : ℕ). p < nodes) (λ p among. reached_known system_ends nodes steps start fine known ((of.exactly p).0 among)) order (All-contains_itself order)

pub cost_from : (steps : List SystemStep) (start : ℕ) (order : List ℕ) (best : Option ℕ) → IsOrder (Joins system_ends steps) start order → IsBest steps start best → IsCostFrom steps start best
cost_from steps start order best of greatest =
    record {
      acyclic = λ p way led. no_cycle (Joins system_ends steps) order of.ordered p ((of.exactly p).1 way) led;
      greatest = greatest;
      ends = λ has.
          let placed = get_from_contains order start ((of.exactly start).1 here) in
          let walk = walk_through steps order of.ordered (λ p among. has p ((of.exactly p).0 among)) (placed.0 + 1) placed.0 start (omega arith) placed.1 in
          let most = greatest.most walk.0 walk.1 in
          is_some best most.0 most.1;
    }
