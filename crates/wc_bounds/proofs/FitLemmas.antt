-- Call strings, from the innermost call on, and the calls of a context.
use Rattle.std.proofs.Common.{ℕ, zero, suc, ◌≡◌, ◌+◌, ◌%◌, ◌^◌, ◌<◌, Bool, true, false, ◌==◌, ◌&&◌, if◌then◌else◌, List, [], ◌∷◌, reverse, Option, None, Some, length, refl, sym, ap, subst, ◌∙◌, arith}
use Rattle.std.specs.List.{slice_get}
use Rattle.std.proofs.lemmas.Bool.{eq-eqb, ne_eqb}
use Rattle.std.proofs.lemmas.Option.{none-some, same_Some}
use Rattle.wc_model.specs.declared.graphs.Context.{Context}
use Rattle.wc_model.specs.Flow.Bounds.{AreCalls, calls_fit, fits}
use Rattle.wc_model.specs.Program.Positions.{Call, Position}
use Rattle.wc_model.proofs.Places.{get_within}
use Rattle.wc_bounds.specs.Inner.Best.{ArePlaced}

-- each context has a call stack
pub calls_for : (contexts : List Context) → ArePlaced contexts → (n k : ℕ) → k < n → k < length contexts → (calls : List Call) × AreCalls contexts k calls
calls_for contexts placed zero k less within = absurd (omega arith)
calls_for contexts placed (suc n) k less within =
    let found = get_within contexts k within in
    of_parent found.0 found.1 found.0.parent refl (λ j low. calls_for contexts placed n j (omega arith) (omega arith))
  where
    of_parent : (c : Context) → slice_get contexts k ≡ Some c → (o : Option ℕ) → c.parent ≡ o → ((j : ℕ) → j < k → (calls : List Call) × AreCalls contexts j calls) → (calls : List Call) × AreCalls contexts k calls
    of_parent c at None none below = ([], (c, at, none))
    of_parent c at (Some j) is below =
        let low : j < k = rw is at (placed k c at) in
        let rest = below j low in
        ((record { returns = c.returns; callee = c.callee }) ∷ rest.0, (c, j, at, is, refl, refl, rest.1))

-- the address comes first
pub fits_nowhere : (n at : ℕ) (within : List ℕ) (p : Position) → n ≡ p.pc → (n ≡ at → ⊥) → false ≡ fits at within p
fits_nowhere n at within p is other = sym (ap (λ (b : Bool). b && calls_fit (reverse within) p.calls) (ne_eqb p.pc at (λ same. other (is ∙ same))))

pub fits_there : (n at : ℕ) (within : List ℕ) (p : Position) → n ≡ p.pc → n ≡ at → fits at within p ≡ calls_fit (reverse within) p.calls
fits_there n at within p is same = ap (λ (b : Bool). b && calls_fit (reverse within) p.calls) (eq-eqb p.pc at (sym is ∙ same))

pub parent_is : (t : Bool) (o : Option ℕ) (j : ℕ) → (if t then o else None) ≡ Some j → o ≡ Some j
parent_is true o j is = is
parent_is false o j is = absurd (none-some j is)

-- the innermost call of a call string, and the rest of it
module _ (contexts : List Context) (k at : ℕ) (ats : List ℕ) (c : Context) (there : slice_get contexts k ≡ Some c) where
  pub fits_on : (j : ℕ) (calls : List Call) → (if c.returns == (at + 4) % 2 ^ 32 then c.parent else None) ≡ Some j → AreCalls contexts k calls → (outer : List Call) × AreCalls contexts j outer × (calls_fit (at ∷ ats) calls ≡ calls_fit ats outer)
  fits_on j [] is (d, at_d, none) = absurd (by (c.returns == (at + 4) % 2 ^ 32) is)
    where
      by : (t : Bool) → (if t then c.parent else None) ≡ Some j → ⊥
      by true is_some = none-some j (sym none ∙ ap (λ (x : Context). x.parent) (same_Some d c (sym at_d ∙ there)) ∙ is_some)
      by false is_some = none-some j is_some
  fits_on j (call ∷ calls) is (d, i, at_d, parent, returns, callee, below) = by (c.returns == (at + 4) % 2 ^ 32) refl is
    where
      same : d ≡ c
      same = same_Some d c (sym at_d ∙ there)

      by : (t : Bool) → (c.returns == (at + 4) % 2 ^ 32) ≡ t → (if t then c.parent else None) ≡ Some j → (outer : List Call) × AreCalls contexts j outer × (calls_fit (at ∷ ats) (call ∷ calls) ≡ calls_fit ats outer)
      by true test is_some =
          let one : i ≡ j = same_Some i j (sym parent ∙ ap (λ (x : Context). x.parent) same ∙ is_some) in
          (calls, subst (λ (n : ℕ). AreCalls contexts n calls) one below, ap (λ (b : Bool). b && calls_fit ats calls) (ap (λ (n : ℕ). n == (at + 4) % 2 ^ 32) (sym returns ∙ ap (λ (x : Context). x.returns) same) ∙ test))
      by false test is_some = absurd (none-some j is_some)

  pub fits_not : (calls : List Call) → (if c.returns == (at + 4) % 2 ^ 32 then c.parent else None) ≡ None → AreCalls contexts k calls → calls_fit (at ∷ ats) calls ≡ false
  fits_not [] is are = refl
  fits_not (call ∷ calls) is (d, i, at_d, parent, returns, callee, below) = by (c.returns == (at + 4) % 2 ^ 32) refl is
    where
      same : d ≡ c
      same = same_Some d c (sym at_d ∙ there)

      by : (t : Bool) → (c.returns == (at + 4) % 2 ^ 32) ≡ t → (if t then c.parent else None) ≡ None → calls_fit (at ∷ ats) (call ∷ calls) ≡ false
      by true test is_none = absurd (none-some i (sym is_none ∙ sym (ap (λ (x : Context). x.parent) same) ∙ parent))
      by false test is_none = ap (λ (b : Bool). b && calls_fit ats calls) (ap (λ (n : ℕ). n == (at + 4) % 2 ^ 32) (sym returns ∙ ap (λ (x : Context). x.returns) same) ∙ test)
