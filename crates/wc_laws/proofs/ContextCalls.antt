-- The calls of a context are one list, and stand on those of an earlier one.
use Rattle.std.proofs.Common.{ℕ, zero, suc, ◌≡◌, ◌<◌, ◌≤◌, ⊎_elim, List, [], ◌∷◌, None, Some, length, refl, sym, ap, ap₂, subst, ◌∙◌, arith}
use Rattle.std.specs.List.{AllPairs, slice_get}
use Rattle.std.specs.declared.cmp.Ordering.TheVariants.{Less}
use Rattle.std.proofs.lemmas.Bool.{cases_lt}
use Rattle.std.proofs.lemmas.Option.{none-some, same_Some, slice_get_within}
use Rattle.wc_model.proofs.Places.{get_within}
use Rattle.wc_model.specs.declared.graphs.Context.{Context}
use Rattle.wc_model.specs.Flow.Bounds.{AreCalls}
use Rattle.wc_model.specs.Flow.Systems.{calls_from, in_context}
use Rattle.wc_model.specs.Program.Graphs.{IsStack}
use Rattle.wc_model.specs.Program.Positions.{Call, stack_cmp}
use Rattle.wc_nest.proofs.ListLemmas.{pairs_at}
use Rattle.wc_laws.proofs.StackOrder.{stack_above}

module _ (contexts : List Context) where
  -- what a place says of its context
  context_same : (k : ℕ) (c d : Context) → slice_get contexts k ≡ Some c → slice_get contexts k ≡ Some d → c ≡ d
  context_same k c d at_c at_d = same_Some c d (sym at_c ∙ at_d)

  pub calls_once : (a b : List Call) (k : ℕ) → AreCalls contexts k a → AreCalls contexts k b → a ≡ b
  calls_once [] [] k is also = refl
  calls_once [] (d ∷ b) k (c, at_c, none) (e, j, at_e, some, returns, callee, rest) = absurd (none-some j (sym none ∙ ap (λ (x : Context). x.parent) (context_same k c e at_c at_e) ∙ some))
  calls_once (d ∷ a) [] k (e, j, at_e, some, returns, callee, rest) (c, at_c, none) = absurd (none-some j (sym none ∙ ap (λ (x : Context). x.parent) (context_same k c e at_c at_e) ∙ some))
  calls_once (x ∷ a) (y ∷ b) k (c, i, at_c, parent_c, returns_c, callee_c, rest_c) (d, j, at_d, parent_d, returns_d, callee_d, rest_d) =
      let same : c ≡ d = context_same k c d at_c at_d in
      let one : i ≡ j = same_Some i j (sym parent_c ∙ ap (λ (o : Context). o.parent) same ∙ parent_d) in
      let returns : x.returns ≡ y.returns = sym returns_c ∙ ap (λ (o : Context). o.returns) same ∙ returns_d in
      let callee : x.callee ≡ y.callee = sym callee_c ∙ ap (λ (o : Context). o.callee) same ∙ callee_d in
      let call : x ≡ y = λ n. record { returns = returns n; callee = callee n } in
      ap₂ (λ (o : Call) (os : List Call). o ∷ os) call (calls_once a b i rest_c (subst (λ (n : ℕ). AreCalls contexts n b) (sym one) rest_d))

  module _ (entry : ℕ) where
    pub stack_calls : (calls : List Call) (k : ℕ) → IsStack entry contexts k calls → AreCalls contexts k calls
    stack_calls [] k is = (record { parent = None; returns = 0; callee = entry }, is, refl)
    stack_calls (c ∷ calls) k (j, at, rest) = (record { parent = Some j; returns = c.returns; callee = c.callee }, j, at, refl, refl, refl, stack_calls calls j rest)

    pub stack_within : (calls : List Call) (k : ℕ) → IsStack entry contexts k calls → k < length contexts
    stack_within [] k is = slice_get_within contexts k (record { parent = None; returns = 0; callee = entry }) is
    stack_within (c ∷ calls) k is = slice_get_within contexts k (record { parent = Some is.0; returns = c.returns; callee = c.callee }) is.1

    -- the stacks of the contexts, in order
    module _ (stacks : List (List Call)) (sorted : AllPairs (λ a b. stack_cmp a b ≡ Less) stacks) (counted : length contexts ≡ length stacks)
        (are : (k : ℕ) (calls : List Call) → slice_get stacks k ≡ Some calls → IsStack entry contexts k calls) where
      pub stack_at : (k : ℕ) (calls : List Call) → IsStack entry contexts k calls → slice_get stacks k ≡ Some calls
      stack_at k calls is =
          let less : k < length contexts = stack_within calls k is in
          let own = get_within stacks k (omega (arith, counted)) in
          own.1 ∙ ap Some (calls_once own.0 calls k (stack_calls own.0 k (are k own.0 own.1)) (stack_calls calls k is))

      longer : (c : Call) (calls : List Call) → calls ≡ c ∷ calls → ⊥
      longer c calls same = let more : length calls ≡ suc (length calls) = ap length same in omega (arith, more)

      before : (c : Call) (calls : List Call) (k j : ℕ) → slice_get stacks k ≡ Some (c ∷ calls) → slice_get stacks j ≡ Some calls → j < k
      before c calls k j at_k at_j = ⊎_elim
          (λ (less : j < k). less)
          (λ (high : k ≤ j). absurd (⊎_elim
          (λ (more : k < j). stack_above c calls (pairs_at (λ a b. stack_cmp a b ≡ Less) stacks k j (c ∷ calls) calls sorted more at_k at_j))
          (λ (low : j ≤ k).
          let one : j ≡ k = omega arith in
          longer c calls (same_Some calls (c ∷ calls) (sym at_j ∙ ap (slice_get stacks) one ∙ at_k)))
          (cases_lt k j)))
          (cases_lt j k)

      -- with enough rounds the calls of a context are its stack
      pub calls_are : (calls : List Call) (n k : ℕ) → k < n → IsStack entry contexts k calls → calls_from contexts n k ≡ calls
      calls_are calls zero k less is = absurd (omega (arith, less))
      calls_are [] (suc n) k less is = ap (in_context (calls_from contexts n)) is
      calls_are (c ∷ calls) (suc n) k less (j, at, rest) =
          let low : j < k = before c calls k j (stack_at k (c ∷ calls) (j, at, rest)) (stack_at j calls rest) in
          ap (in_context (calls_from contexts n)) at ∙ ap (λ (os : List Call). c ∷ os) (calls_are calls n j (omega (arith, low, less)) rest)
