-- Two required features together: each is one where both are, and a fault of both is a fault of one.
use Rattle.std.proofs.Common.{◌≡◌, Result, Ok, Err, refl, sym, ap, ap₂, subst, ◌∙◌}
use Rattle.wc_base.specs.declared.faults.Fault.{Fault}
use Rattle.wc_model.specs.Workspace.Feature.{Always, Both, joined}
use Rattle.wc_model.specs.Workspace.Phases.{After, stopped, went_on}
use Rattle.wc_laws.proofs.OnePhaseLemmas.{IsOne, not_both, same_fault, same_value}

-- a fault excludes each other result, while values may be many
abbrev pub IsOneFault : {A : Type 0} → (Result A Fault → Type 0) → Type 0
IsOneFault {A} Is = (f : Fault) (r : Result A Fault) → Is (Err f) → Is r → Err f ≡ r

module _ {A : Type 0} where
  pub value_once : {Is : Result A Fault → Type 0} → IsOne Is → (a b : A) → Is (Ok a) → Is (Ok b) → a ≡ b
  value_once one a b is also = same_value (Ok a) a b refl (one (Ok a) (Ok b) is also)

  pub always_one : (Is : A → Type 0) → ((a b : A) → Is a → Is b → a ≡ b) → IsOne (Always Is)
  always_one Is one (Ok a) (Ok b) is also = ap (λ (x : A). Ok x) (one a b is also)
  always_one Is one (Ok a) (Err f) is also = absurd also
  always_one Is one (Err f) r is also = absurd is

module _ {A B : Type 0} (First : Result A Fault → Type 0) (Second : Result B Fault → Type 0) where
  pub both_one : IsOne First → IsOne Second → IsOne (Both First Second)
  both_one one other r s (a, b, is, of, joins) (c, d, is_too, of_too, joins_too) =
      sym joins ∙ ap₂ (λ (x : Result A Fault) (y : Result B Fault). joined x y) (one a c is is_too) (other b d of of_too) ∙ joins_too

  pub both_are : (a : A) (b : B) → First (Ok a) → Second (Ok b) → Both First Second (Ok (a, b))
  both_are a b is of = (Ok a, Ok b, is, of, refl)

  -- the two values behind a pair
  pub both_parts : (p : A × B) → Both First Second (Ok p) → First (Ok p.0) × Second (Ok p.1)
  both_parts p (Ok a, Ok b, is, of, joins) =
      subst (λ (q : A × B). First (Ok q.0) × Second (Ok q.1)) (same_value (joined (Ok a) (Ok b)) (a, b) p refl joins) (is, of)
  both_parts p (Ok a, Err f, is, of, joins) = absurd (not_both (Err f) p f joins refl)
  both_parts p (Err f, b, is, of, joins) = absurd (not_both (Err f) p f joins refl)

  -- what follows from a fault of each one follows from a fault of both
  pub both_stop : (Then : Fault → Type 0) → ((f : Fault) → First (Err f) → Then f) → ((f : Fault) → Second (Err f) → Then f) → (f : Fault) → Both First Second (Err f) → Then f
  both_stop Then first second f (Ok a, Ok b, is, of, joins) = absurd (not_both (Ok (a, b)) (a, b) f refl joins)
  both_stop Then first second f (Ok a, Err g, is, of, joins) = subst Then (same_fault (Err g) g f refl joins) (second g of)
  both_stop Then first second f (Err g, b, is, of, joins) = subst Then (same_fault (Err g) g f refl joins) (first g is)

module _ {A B : Type 0} (First : Result A Fault → Type 0) (Second : A → Result B Fault → Type 0) where
  -- the second phase, where the first one's value is known
  pub after_at : IsOne First → (a : A) → First (Ok a) → (r : Result B Fault) → After First Second r → Second a r
  after_at one a is r (stopped f first) = absurd (not_both (Ok a) a f refl (one (Ok a) (Err f) is first))
  after_at one a is r (went_on b _ first then) = subst (λ (x : A). Second x r) (value_once one b a first is) then

  pub after_stop : (Then : Fault → Type 0) → ((f : Fault) → First (Err f) → Then f) → ((a : A) (f : Fault) → First (Ok a) → Second a (Err f) → Then f) → (f : Fault) → After First Second (Err f) → Then f
  after_stop Then first second f (stopped _ is) = first f is
  after_stop Then first second f (went_on a _ is then) = second a f is then

  pub after_fault_one : IsOne First → ((a : A) → IsOneFault (Second a)) → IsOneFault (After First Second)
  after_fault_one one each f r is also = by f r is also
    where
      by : (f : Fault) (r : Result B Fault) → After First Second (Err f) → After First Second r → Err f ≡ r
      by f r (stopped _ first) (stopped g other) = ap (λ (x : Fault). Err x) (same_fault (Err f) f g refl (one (Err f) (Err g) first other))
      by f r (stopped _ first) (went_on a _ other then) = absurd (not_both (Ok a) a f refl (one (Ok a) (Err f) other first))
      by f r (went_on a _ first fails) more = each a f r fails (after_at one a first r more)
