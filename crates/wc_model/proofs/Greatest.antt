-- The greatest cost of a walk from a node, from those of the nodes before it in the order.
use Rattle.std.proofs.Common.{ℕ, ◌≡◌, ◌+◌, ◌<◌, ◌≤◌, max, ⊎_elim, List, [], ◌∷◌, ◌++◌, Option, None, Some, IfSome, option_map, length, set, get_or, refl, sym, ap, subst, ◌∙◌, arith}
use Rattle.std.specs.List.{Contains, slice_get}
use Rattle.std.proofs.lemmas.Bool.{cases_lt}
use Rattle.std.proofs.lemmas.List.{get_or-set_same, get_or-set_other}
use Rattle.std.proofs.lemmas.List.Elements.{Contains-push, Contains-push_cases, Contains-append_left}
use Rattle.std.proofs.lemmas.Option.{none-some, same_Some}
use Rattle.wc_model.specs.declared.flow_system.SystemStep.{SystemStep}
use Rattle.wc_model.specs.Inner.Greatest.{cost_ahead, cost_through, option_max, IsGreatestOf}
use Rattle.wc_model.specs.Flow.Ends.{system_ends}
use Rattle.wc_model.specs.Flow.Walks.{AreStepsOf, Joins, IsWalk, walk_cost, IsOrdered, IsBest}

-- one more element
pub greatest_push : {X : Type 0} (f : X → Option ℕ) (xs : List X) (x : X) (g y : Option ℕ) → f x ≡ y → IsGreatestOf f xs g → IsGreatestOf f (xs ++ x ∷ []) (option_max g y)
greatest_push f xs x None None is old = λ z among. ⊎_elim (λ (before : Contains xs z). old z before) (λ (same : x ≡ z). ap f (sym same) ∙ is) (Contains-push_cases xs x z among)
greatest_push f xs x None (Some b) is old = ((x, Contains-push xs x, is), λ z c among at. ⊎_elim (λ (before : Contains xs z). absurd (none-some c (sym (old z before) ∙ at))) (λ (same : x ≡ z). let one : b ≡ c = same_Some b c (sym is ∙ ap f same ∙ at) in omega arith) (Contains-push_cases xs x z among))
greatest_push f xs x (Some a) None is old = ((old.0.0, Contains-append_left xs (x ∷ []) old.0.0 old.0.1, old.0.2), λ z c among at. ⊎_elim (λ (before : Contains xs z). old.1 z c before at) (λ (same : x ≡ z). absurd (none-some c (sym is ∙ ap f same ∙ at))) (Contains-push_cases xs x z among))
greatest_push {X} f xs x (Some a) (Some b) is old = (⊎_elim (λ (less : a < b). found_new (omega arith)) (λ (more : b ≤ a). found_old (omega arith)) (cases_lt a b), λ z c among at. ⊎_elim (λ (before : Contains xs z). let low : c ≤ a = old.1 z c before at in omega arith) (λ (same : x ≡ z). let one : b ≡ c = same_Some b c (sym is ∙ ap f same ∙ at) in omega arith) (Contains-push_cases xs x z among))
  where
    found_new : b ≡ max a b → (z : X) × Contains (xs ++ x ∷ []) z × (f z ≡ Some (max a b))
    found_new top = (x, Contains-push xs x, is ∙ ap Some top)

    found_old : a ≡ max a b → (z : X) × Contains (xs ++ x ∷ []) z × (f z ≡ Some (max a b))
    found_old top = (old.0.0, Contains-append_left xs (x ∷ []) old.0.0 old.0.1, old.0.2 ∙ ap Some top)

pub max_below : (a b : Option ℕ) (n : ℕ) → IfSome a (λ x. x < n) → IfSome b (λ x. x < n) → IfSome (option_max a b) (λ x. x < n)
max_below None b n low_a low_b = low_b
max_below (Some a) None n low_a low_b = low_a
max_below (Some a) (Some b) n low_a low_b = omega arith

-- the best of a node
module _ (steps : List SystemStep) (best : List (Option ℕ)) (p : ℕ) (out : List SystemStep) (of : AreStepsOf system_ends steps p out) (ahead : (s : SystemStep) (q : ℕ) → Contains steps s → s.source ≡ p → s.target ≡ Some q → IsBest steps q (get_or best q None)) where
  reached_by : (s : SystemStep) (b : ℕ) (target : Option ℕ) (a : Option ℕ) → Contains steps s → s.source ≡ p → s.target ≡ target → cost_ahead best target ≡ a → option_map (λ n. s.cost + n) a ≡ Some b → (walk : List SystemStep) × IsWalk steps (Some p) walk × (walk_cost walk ≡ b)
  reached_by s b target None among at to is gives = absurd (none-some b gives)
  reached_by s b None (Some a) among at to is gives = (s ∷ [], (among, ap Some (sym at), to), ap (λ n. s.cost + n) (same_Some 0 a is) ∙ same_Some (s.cost + a) b gives)
  reached_by s b (Some q) (Some a) among at to is gives =
      let known : IfSome (get_or best q None) (λ n. (walk : List SystemStep) × IsWalk steps (Some q) walk × (walk_cost walk ≡ n)) = (ahead s q among at to).attained in
      let rest : (walk : List SystemStep) × IsWalk steps (Some q) walk × (walk_cost walk ≡ a) = rw is at known in
      (s ∷ rest.0, (among, ap Some (sym at), subst (λ (x : Option ℕ). IsWalk steps x rest.0) (sym to) rest.1), ap (λ n. s.cost + n) rest.2 ∙ same_Some (s.cost + a) b gives)

  -- what the rest of a walk costs is at most what is ahead
  rest_least : (target : Option ℕ) (rest : List SystemStep) (s : SystemStep) → Contains steps s → s.source ≡ p → s.target ≡ target → IsWalk steps target rest → (a : ℕ) × (cost_ahead best target ≡ Some a) × (walk_cost rest ≤ a)
  rest_least None [] s among at to is = (0, refl, omega arith)
  rest_least None (t ∷ rest) s among at to is = absurd (none-some t.source is.1)
  rest_least (Some q) rest s among at to is = (ahead s q among at to).most rest is

  attained_by : (g : Option ℕ) → IsGreatestOf (cost_through best) out g → IfSome g (λ b. (walk : List SystemStep) × IsWalk steps (Some p) walk × (walk_cost walk ≡ b))
  attained_by None is = tt
  attained_by (Some b) is =
      let s = is.0.0 in
      let among = of.inside s is.0.1 in
      reached_by s b s.target (cost_ahead best s.target) among.0 among.1 refl refl is.0.2

  most_by : (g : Option ℕ) → IsGreatestOf (cost_through best) out g → (walk : List SystemStep) → IsWalk steps (Some p) walk → (b : ℕ) × (g ≡ Some b) × (walk_cost walk ≤ b)
  most_by g is [] walks = absurd (none-some p (sym walks))
  most_by None is (s ∷ rest) walks =
      let at : s.source ≡ p = same_Some s.source p (sym walks.1) in
      let next = rest_least s.target rest s walks.0 at refl walks.2 in
      absurd (none-some (s.cost + next.0) (sym (is s (of.all s walks.0 at)) ∙ ap (option_map (λ n. s.cost + n)) next.1))
  most_by (Some b) is (s ∷ rest) walks =
      let at : s.source ≡ p = same_Some s.source p (sym walks.1) in
      let next = rest_least s.target rest s walks.0 at refl walks.2 in
      let most : s.cost + next.0 ≤ b = is.1 s (s.cost + next.0) (of.all s walks.0 at) (ap (option_map (λ n. s.cost + n)) next.1) in
      (b, refl, omega (arith, next.2))

  pub new_best : (g : Option ℕ) → IsGreatestOf (cost_through best) out g → IsBest steps p g
  new_best g is = record { attained = attained_by g is; most = most_by g is }

-- one more node of the order
pub best_more : (steps : List SystemStep) (order : List ℕ) (best : List (Option ℕ)) (i p : ℕ) (out : List SystemStep) (g : Option ℕ) → IsOrdered (Joins system_ends steps) order → slice_get order i ≡ Some p → p < length best → ((j q : ℕ) → j < i → slice_get order j ≡ Some q → IsBest steps q (get_or best q None)) → AreStepsOf system_ends steps p out → IsGreatestOf (cost_through best) out g → (j q : ℕ) → j < i + 1 → slice_get order j ≡ Some q → IsBest steps q (get_or (set best p g) q None)
best_more steps order best i p out g ordered here_p known old of is j q less at = ⊎_elim
    (λ (before : j < i).
    let apart : q ≡ p → ⊥ = λ same. let one : j ≡ i = ordered.once j i p (subst (λ (x : ℕ). slice_get order j ≡ Some x) same at) here_p in omega arith in
    subst (λ (b : Option ℕ). IsBest steps q b) (sym (get_or-set_other best p q g None apart)) (old j q before at))
    (λ (there : i ≤ j).
    let one : j ≡ i = omega arith in
    let same : p ≡ q = same_Some p q (sym here_p ∙ ap (slice_get order) (sym one) ∙ at) in
    subst (λ (x : ℕ). IsBest steps x (get_or (set best p g) x None)) same (subst (λ (b : Option ℕ). IsBest steps p b) (sym (get_or-set_same best p g None known)) made))
    (cases_lt j i)
  where
    ahead : (s : SystemStep) (r : ℕ) → Contains steps s → s.source ≡ p → s.target ≡ Some r → IsBest steps r (get_or best r None)
    ahead s r among from to =
        let found = ordered.earlier i p r here_p (s, among, from, to) in
        old found.0 r found.1 found.2

    made : IsBest steps p g
    made = new_best steps best p out of ahead g is
