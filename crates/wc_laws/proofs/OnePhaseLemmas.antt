-- What gives at most one result, and one phase after another.
use Rattle.std.proofs.Common.{◌≡◌, Result, Ok, Err, refl, sym, ap, subst, ◌∙◌}
use Rattle.wc_base.specs.declared.faults.Fault.{Fault}
use Rattle.wc_model.specs.Workspace.Phases.{After, stopped, went_on}

abbrev pub IsOne : {A : Type 0} → (Result A Fault → Type 0) → Type 0
IsOne {A} Gives = (r s : Result A Fault) → Gives r → Gives s → r ≡ s

module _ {A : Type 0} where
  pub same_value : (r : Result A Fault) (a b : A) → r ≡ Ok a → r ≡ Ok b → a ≡ b
  same_value r a b is also = let same : Ok a ≡ Ok b = sym is ∙ also in cc

  pub same_fault : (r : Result A Fault) (f g : Fault) → r ≡ Err f → r ≡ Err g → f ≡ g
  same_fault r f g is also = let same : Err f ≡ Err g = sym is ∙ also in cc

  pub not_both : (r : Result A Fault) (a : A) (f : Fault) → r ≡ Ok a → r ≡ Err f → ⊥
  not_both r a f is also = let same : Ok a ≡ Err f = sym is ∙ also in cc

module _ {A B : Type 0} (First : Result A Fault → Type 0) (Second : A → Result B Fault → Type 0) where
  -- the second phase may depend on less than the whole of the first one's value
  pub after_one : ((a : A) (f : Fault) → First (Ok a) → First (Err f) → ⊥) → ((f g : Fault) → First (Err f) → First (Err g) → f ≡ g)
      → ((a b : A) → First (Ok a) → First (Ok b) → (r s : Result B Fault) → Second a r → Second b s → r ≡ s) → IsOne (After First Second)
  after_one apart one both r s is also = by is also
    where
      by : {r s : Result B Fault} → After First Second r → After First Second s → r ≡ s
      by (stopped f first) (stopped g other) = ap (λ (x : Fault). Err x) (one f g first other)
      by (stopped f first) (went_on b s other more) = absurd (apart b f other first)
      by (went_on a r first next) (stopped g other) = absurd (apart a g first other)
      by (went_on a r first next) (went_on b s other more) = both a b first other r s next more

  pub after_by : IsOne First → ((a : A) → First (Ok a) → IsOne (Second a)) → IsOne (After First Second)
  after_by one each = after_one
      (λ a f first other. not_both (Ok a) a f refl (one (Ok a) (Err f) first other))
      (λ f g first other. same_fault (Err f) f g refl (one (Err f) (Err g) first other))
      (λ a b first other r s next more. each a first r s next (subst (λ (x : A). Second x s) (sym (same_value (Ok a) a b refl (one (Ok a) (Ok b) first other))) more))
