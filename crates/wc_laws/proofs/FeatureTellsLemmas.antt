-- What a feature of the last kind tells, and that values of a kind are one.
use Rattle.std.proofs.Common.{ℕ, ◌≡◌, List, Some, Ok, Err, refl, sym, ap, subst, ◌∙◌, arith}
use Rattle.std.proofs.lemmas.Option.{same_Some}
use Rattle.wc_model.specs.declared.values.Outcome.{Outcome}
use Rattle.wc_model.specs.declared.values.Outcome.TheVariants as outcome
use Rattle.wc_model.specs.declared.values.Value.{Value}
use Rattle.wc_model.specs.declared.values.Value.TheVariants as value
use Rattle.wc_model.specs.Workspace.Chain.{chain}
use Rattle.wc_model.specs.Workspace.Edits.{Setting}
use Rattle.wc_model.specs.Workspace.Feature.{IsFeature, outcome_of}
use Rattle.wc_laws.proofs.OneOutcomeLemmas.{one_outcome}
use Rattle.wc_laws.proofs.TellingLemmas.{bound_tells}
use Rattle.wc_laws.specs.FeatureLaws.{FeatureTells, TellsOutcome}

module _ (inputs : Setting) (name : List ℕ) where
  tells : (v : Value) → IsFeature inputs name 11 v → TellsOutcome inputs name v
  tells (value.Graph r) (is, of) = absurd (omega (arith, is))
  tells (value.Nest r) (is, of) = absurd (omega (arith, is))
  tells (value.Bounds r) (is, of) = absurd (omega (arith, is))
  tells (value.Lines r) (is, of) = absurd (omega (arith, is))
  tells (value.Must r) (is, of) = absurd (omega (arith, is))
  tells (value.May r) (is, of) = absurd (omega (arith, is))
  tells (value.Category r) (is, of) = absurd (omega (arith, is))
  tells (value.Cost r) (is, of) = absurd (omega (arith, is))
  tells (value.System r) (is, of) = absurd (omega (arith, is))
  tells (value.Solution r) (is, of) = absurd (omega (arith, is))
  tells (value.Bound (Ok bound)) (is, of) = (outcome.Bound bound, refl, bound_tells inputs name (Ok bound) of)
  tells (value.Bound (Err fault)) (is, of) = (outcome.Fault fault, refl, bound_tells inputs name (Err fault) of)

  told_is : (v : Value) (told : Outcome) → IsFeature inputs name 11 v → outcome_of v ≡ Some told → chain inputs name told
  told_is v told is says =
      let all = tells v is in
      subst (chain inputs name) (same_Some all.0 told (sym all.1 ∙ says)) all.2

  one_told : (v w : Value) → IsFeature inputs name 11 v → IsFeature inputs name 11 w → outcome_of v ≡ outcome_of w
  one_told v w is also =
      let a = tells v is in
      let b = tells w also in
      a.1 ∙ ap (λ (o : Outcome). Some o) (one_outcome inputs name a.0 b.0 a.2 b.2) ∙ sym b.1

pub feature_tells : FeatureTells
feature_tells = record { tells = tells; told = told_is; one = one_told }
