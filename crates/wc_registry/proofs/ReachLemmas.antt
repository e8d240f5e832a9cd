-- The search for all kinds that a kind requires: what is found is required, and where nothing is open, all is found.
use Rattle.std.proofs.Common.{ℕ, ◌≡◌, ◌||◌, Bool, true, false, not, ⊎_elim, List, sym, ap, subst, ◌∙◌}
use Rattle.std.specs.Prelude.{◌↔◌}
use Rattle.std.specs.List.{Contains, list_all}
use Rattle.std.proofs.lemmas.Bool.{and_cases, and_parts, false≢true, not-false, or_cases, or_left, or_right}
use Rattle.wc_model.specs.declared.kinds.Describe.{Describe}
use Rattle.wc_model.specs.Workspace.Closures.{has_kind, requires_of}
use Rattle.wc_model.specs.Workspace.Registry.{IsDoubled, Requires, directly, through}
use Rattle.wc_registry.specs.Inner.KindSets.{holds, is_open}
use Rattle.wc_registry.specs.Inner.Required.{IsFinding}
use Rattle.wc_registry.specs.Sound.{NoneWith}
use Rattle.wc_registry.proofs.KindLemmas.{all_at, has_there, requires_at, requires_from, there_has}

module _ (kinds : List Describe) (number : ℕ) where
  pub finding_begins : (old new : List Bool) → ((k : ℕ) → holds old k ≡ false) → ((k : ℕ) → holds new k ≡ (has_kind k (requires_of kinds number) || holds old k)) → IsFinding kinds number new
  finding_begins old new empty adds =
      record {
        sound = λ k held. ⊎_elim (λ (has : has_kind k (requires_of kinds number) ≡ true). directly (has_there k (requires_of kinds number) has)) (λ (before : holds old k ≡ true). absurd (false≢true (sym (empty k) ∙ before))) (or_cases (has_kind k (requires_of kinds number)) (holds old k) (sym (adds k) ∙ held));
        begun = λ k there. adds k ∙ or_left (has_kind k (requires_of kinds number)) (holds old k) (there_has k (requires_of kinds number) there);
      }

  pub finding_goes_on : NoneWith (IsDoubled kinds) → (d : Describe) (old new : List Bool) → Contains kinds d → is_open old d ≡ true → ((k : ℕ) → holds new k ≡ (has_kind k d.requires_ || holds old k)) → IsFinding kinds number old → IsFinding kinds number new
  finding_goes_on single d old new there is adds known =
      let held : holds old d.provides ≡ true = (and_parts (holds old d.provides) (not (list_all (λ k. holds old k) d.requires_)) is).0 in
      record {
        sound = λ k now. ⊎_elim
            (λ (has : has_kind k d.requires_ ≡ true). through (known.sound d.provides held) (subst (λ (ks : List ℕ). Contains ks k) (sym (requires_at kinds single d there)) (has_there k d.requires_ has)))
            (λ (before : holds old k ≡ true). known.sound k before)
            (or_cases (has_kind k d.requires_) (holds old k) (sym (adds k) ∙ now));
        begun = λ k first. adds k ∙ or_right (has_kind k d.requires_) (holds old k) (known.begun k first);
      }

  all_found : (found : List Bool) → IsFinding kinds number found → ((d : Describe) → Contains kinds d → is_open found d ≡ false) → {k : ℕ} → Requires kinds number k → holds found k ≡ true
  all_found found known closed (directly there) = known.begun _ there
  all_found found known closed (through {i = i} {j = j} way there) =
      let from : (d : Describe) × Contains kinds d × (d.provides ≡ i) × Contains d.requires_ j = requires_from kinds i j there in
      let held : holds found (from.0).provides ≡ true = ap (λ n. holds found n) from.2 ∙ all_found found known closed way in
      ⊎_elim (λ (unheld : holds found (from.0).provides ≡ false). absurd (false≢true (sym unheld ∙ held)))
      (λ (all : not (list_all (λ k. holds found k) (from.0).requires_) ≡ false). all_at (λ k. holds found k) (from.0).requires_ j (not-false (list_all (λ k. holds found k) (from.0).requires_) all) from.3)
      (and_cases (holds found (from.0).provides) (not (list_all (λ k. holds found k) (from.0).requires_)) (closed from.0 from.1))

  pub finding_ends : (found : List Bool) → IsFinding kinds number found → ((d : Describe) → Contains kinds d → is_open found d ≡ false) → (k : ℕ) → (holds found k ≡ true) ↔ Requires kinds number k
  finding_ends found known closed k = (known.sound k, λ way. all_found found known closed way)
