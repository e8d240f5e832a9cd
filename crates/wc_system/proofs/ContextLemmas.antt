-- The calls that are open in a context.
use Rattle.std.proofs.Common.{◌≡◌, ℕ, zero, suc, ◌==◌, ◌+◌, ◌-◌, ◌%◌, ◌^◌, ◌<◌, ◌&&◌, List, [], ◌∷◌, ◌++◌, length, reverse, get_or, slice_get, Option, Some, None, Bool, true, false, if◌then◌else◌, refl, sym, ap, ap₂, subst, ◌∙◌, arith}
use Rattle.std.proofs.lemmas.Option.{slice_get-get_or}
use Rattle.std.specs.Prelude.{IfSome}
use Rattle.wc_model.specs.declared.graphs.Context.{Context}
use Rattle.wc_model.specs.Flow.Bounds.{calls_fit}
use Rattle.wc_model.specs.Flow.Systems.{call_of, calls_from, in_context, on_parent}
use Rattle.wc_model.specs.Program.Positions.{Call}
use Rattle.wc_system.specs.Inner.Contexts.{AreContexts, IsBelow, below_call, calls_in}

module _ (contexts : List Context) (parents : AreContexts contexts) where
  parent_same : (a b : ℕ) (call : Call) (o : Option ℕ) → ((j : ℕ) → o ≡ Some j → calls_from contexts a j ≡ calls_from contexts b j)
      → on_parent (calls_from contexts a) call o ≡ on_parent (calls_from contexts b) call o
  parent_same a b call None each = refl
  parent_same a b call (Some j) each = ap (λ calls. call ∷ calls) (each j refl)

  context_same : (a b k : ℕ) (o : Option Context) → slice_get contexts k ≡ o → ((j : ℕ) → j < k → calls_from contexts a j ≡ calls_from contexts b j)
      → in_context (calls_from contexts a) o ≡ in_context (calls_from contexts b) o
  context_same a b k None at each = refl
  context_same a b k (Some c) at each = parent_same a b (call_of c) c.parent (λ j is. each j (subst (λ o. IfSome o (λ i. i < k)) is (parents k c at)))

  enough : (a b k : ℕ) → k < a → k < b → calls_from contexts a k ≡ calls_from contexts b k
  enough zero b k less-a less-b = absurd (omega arith)
  enough (suc a) zero k less-a less-b = absurd (omega arith)
  enough (suc a) (suc b) k less-a less-b = context_same a b k (slice_get contexts k) refl (λ j before. enough a b j (omega (arith, before)) (omega (arith, before)))

  calls_here : (k : ℕ) (c : Context) → k < length contexts → slice_get contexts k ≡ Some c → calls_in contexts k ≡ on_parent (calls_in contexts) (call_of c) c.parent
  calls_here k c within at =
      let one : length contexts ≡ suc (length contexts - 1) = omega (arith, within) in
      ap (λ n. calls_from contexts n k) one ∙ ap (in_context (calls_from contexts (length contexts - 1))) at
      ∙ parent_same (length contexts - 1) (length contexts) (call_of c) c.parent (λ j is.
      let before : j < k = subst (λ o. IfSome o (λ i. i < k)) is (parents k c at) in
      enough (length contexts - 1) (length contexts) j (omega (arith, before, within)) (omega (arith, before, within)))

  -- what fits where the innermost call, if there is one, is or isn't the one asked for
  fits_parent : List ℕ → Option ℕ → Bool → Bool
  fits_parent ats None b = false
  fits_parent ats (Some j) b = b && calls_fit ats (calls_in contexts j)

  fits_there : (at : ℕ) (ats : List ℕ) (c : Context) (o : Option ℕ) → calls_fit (at ∷ ats) (on_parent (calls_in contexts) (call_of c) o) ≡ fits_parent ats o (c.returns == (at + 4) % 2 ^ 32)
  unfolding fits_parent
  fits_there at ats c None = refl
  fits_there at ats c (Some j) = refl

  pub below_is : (k at : ℕ) (result : Option ℕ) → k < length contexts → ((c : Context) → slice_get contexts k ≡ Some c → result ≡ below_call c at) → IsBelow contexts k at result
  unfolding fits_parent
  below_is k at result within is =
      let none : Context = record { parent = None; returns = 0; callee = 0 } in
      let c : Context = get_or contexts k none in
      let here : slice_get contexts k ≡ Some c = slice_get-get_or contexts k none within in
      subst (IsBelow contexts k at) (sym (is c here))
      (by c.parent (c.returns == (at + 4) % 2 ^ 32) (parents k c here) (λ ats. ap (calls_fit (at ∷ ats)) (calls_here k c within here) ∙ fits_there at ats c c.parent))
    where
      by : (o : Option ℕ) (b : Bool) → IfSome o (λ j. j < k)
          → ((ats : List ℕ) → calls_fit (at ∷ ats) (calls_in contexts k) ≡ fits_parent ats o b)
          → IsBelow contexts k at (if b then o else None)
      by None true before fit = λ ats. fit ats
      by None false before fit = λ ats. fit ats
      by (Some j) true before fit = (omega (arith, before, within), λ ats. fit ats)
      by (Some j) false before fit = λ ats. fit ats
