-- What prices bound is at most the floor of their value.
use Rattle.std.proofs.Common.{ℕ, zero, suc, ◌≡◌, ◌<◌, ◌≤◌, ⊎_elim, ℤ, pos, negsuc, ◌+ℤ◌, ◌*ℤ◌, ◌≤ℤ◌, ◌<ℤ◌, List, [], ◌∷◌, Option, None, Some, sym, ap₂, refl, subst, ◌∙◌, arith}
use Rattle.std.proofs.Math.IntN.{zero-*ℤ, *ℤ_comm}
use Rattle.std.specs.List.{slice_get}
use Rattle.std.proofs.lemmas.Bool.{cases_lt}
use Rattle.std.proofs.lemmas.Int.{ints}
use Rattle.wc_base.proofs.Products.{assoc, cancel, monotone, spread}
use Rattle.wc_model.specs.declared.flow_system.SystemStep.{SystemStep}
use Rattle.wc_model.specs.Flow.Certificates.{scaled}
use Rattle.wc_model.specs.Flow.Counts.{cycles}
use Rattle.wc_model.specs.Flow.SystemWalks.{cost_at, walk_value}

-- costs times a scale
pub scaled_value : (scale : ℤ) (steps : List SystemStep) (walk : List ℕ) → walk_value (scaled scale) steps walk ≡ walk_value cycles steps walk *ℤ scale
scaled_value scale steps [] = sym (zero-*ℤ scale)
scaled_value scale steps (i ∷ walk) = ap₂ (λ a b. a +ℤ b) (one (slice_get steps i)) (scaled_value scale steps walk) ∙ sym (spread (cost_at cycles (slice_get steps i)) (walk_value cycles steps walk) scale)
  where
    one : (o : Option SystemStep) → cost_at (scaled scale) o ≡ cost_at cycles o *ℤ scale
    one None = sym (zero-*ℤ scale)
    one (Some t) = refl

-- a positive factor on both sides
pub cancel_right : (scale a b : ℤ) → pos 0 <ℤ scale → (a *ℤ scale) ≤ℤ (b *ℤ scale) → a ≤ℤ b
cancel_right (pos (suc n)) a b some less = cancel n a b (subst (λ z. z ≤ℤ (pos (suc n) *ℤ b)) (*ℤ_comm a (pos (suc n))) (subst (λ z. (a *ℤ pos (suc n)) ≤ℤ z) (*ℤ_comm b (pos (suc n))) less))
cancel_right (pos zero) a b some less = absurd (omega (arith, ints))
cancel_right (negsuc n) a b some less = absurd (omega (arith, ints))

pub floor_most : (bound value : ℕ) (num den scale dual : ℤ) → pos 0 <ℤ den → pos 0 <ℤ scale → (pos value *ℤ scale) ≤ℤ dual → num *ℤ scale ≡ den *ℤ dual → num <ℤ ((pos bound +ℤ pos 1) *ℤ den) → value ≤ bound
floor_most bound value num den scale dual some whole most same less =
    let scaled_most : (den *ℤ (pos value *ℤ scale)) ≤ℤ (den *ℤ dual) = monotone den (pos value *ℤ scale) dual (omega (arith, ints)) most in
    let product : (den *ℤ pos value) *ℤ scale ≡ den *ℤ (pos value *ℤ scale) = assoc den (pos value) scale in
    let below : (den *ℤ pos value) ≤ℤ num = cancel_right scale (den *ℤ pos value) num whole (omega (arith, ints, scaled_most, product, same)) in
    ⊎_elim
    (λ (over : bound < value).
    let larger : (den *ℤ (pos bound +ℤ pos 1)) ≤ℤ (den *ℤ pos value) = monotone den (pos bound +ℤ pos 1) (pos value) (omega (arith, ints)) (omega (arith, ints, over)) in
    absurd (omega (arith, ints, larger, below, less, *ℤ_comm (pos bound +ℤ pos 1) den)))
    (λ (within : value ≤ bound). within)
    (cases_lt bound value)
