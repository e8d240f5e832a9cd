-- A required fault is passed on, and a phase goes on from what it requires.
use Rattle.std.proofs.Common.{◌≡◌, Result, Ok, Err, refl, sym, ap, subst, ◌∙◌}
use Rattle.wc_base.specs.declared.faults.Fault.{Fault}
use Rattle.wc_base.specs.declared.troubles.Trouble.{Trouble}
use Rattle.wc_base.specs.declared.troubles.Trouble.TheVariants.{Fault as Refused, Memory}
use Rattle.wc_model.specs.Workspace.Feature.{Both, joined}
use Rattle.wc_model.specs.Workspace.Phases.{After, stopped, went_on}
use Rattle.wc_system.specs.Answers.{Answers}
use Rattle.wc_works.specs.Required.{seen_by}

joined_by : {A B C D : Type 0} (f : A → C) (g : B → D) (a : Result A Fault) (b : Result B Fault) → joined (seen_by f a) (seen_by g b) ≡ seen_by (λ (p : A × B). (f p.0, g p.1)) (joined a b)
joined_by f g (Ok a) (Ok b) = refl
joined_by f g (Ok a) (Err fault) = refl
joined_by f g (Err fault) b = refl

-- two required results, by what they show
pub both_seen : {A B C D : Type 0} (First : Result C Fault → Type 0) (Second : Result D Fault → Type 0) (f : A → C) (g : B → D) (a : Result A Fault) (b : Result B Fault) (r : Result (A × B) Fault)
    → r ≡ joined a b → First (seen_by f a) → Second (seen_by g b) → Both First Second (seen_by (λ (p : A × B). (f p.0, g p.1)) r)
both_seen {A} {B} First Second f g a b r same is of =
    (seen_by f a, seen_by g b, is, of, joined_by f g a b ∙ ap (seen_by (λ (p : A × B). (f p.0, g p.1))) (sym same))

module _ {A B S : Type 0} (First : Result A Fault → Type 0) (Second : A → Result B Fault → Type 0) (see : S → A) (r : Result S Fault) (is : First (seen_by see r)) where
  pub value_seen : (s : S) → r ≡ Ok s → First (Ok (see s))
  value_seen s same = subst (λ (x : Result S Fault). First (seen_by see x)) same is

  -- the one rule for a required fault
  pub passes : (fault : Fault) → r ≡ Err fault → After First Second (Err fault)
  passes fault same = stopped fault (subst (λ (x : Result S Fault). First (seen_by see x)) same is)

  pub goes_on : (s : S) → r ≡ Ok s → (t : Result B Trouble) → Answers (Second (see s)) t → Answers (After First Second) t
  goes_on s same (Ok b) answer = went_on (see s) (Ok b) (value_seen s same) answer
  goes_on s same (Err (Refused fault)) answer = went_on (see s) (Err fault) (value_seen s same) answer
  goes_on s same (Err (Memory error)) answer = tt
