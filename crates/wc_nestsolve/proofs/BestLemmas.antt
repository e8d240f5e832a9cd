-- The best of some steps, one step after another.
use Rattle.std.proofs.Common.{◌≡◌, ℕ, ◌+◌, ◌<◌, ◌≤◌, ◌⊎◌, inl, inr, nat_le, slice_get, List, Option, Some, None, Bool, true, false, if◌then◌else◌, refl, sym, ap, ◌∙◌, arith}
use Rattle.std.proofs.lemmas.Option.{same_Some}
use Rattle.std.proofs.lemmas.Bool.{cases_lt}
use Rattle.std.proofs.lemmas.Bool.Decides.{nat_tests}
use Rattle.wc_model.specs.declared.flow_system.System.{System}
use Rattle.wc_model.specs.declared.flow_system.SystemStep.{SystemStep}
use Rattle.wc_model.specs.declared.graphs.Nest.{Nest}
use Rattle.wc_model.specs.Flow.Systems.{is_marked}
use Rattle.wc_nestsolve.specs.declared.found.Found.{Found}
use Rattle.wc_nestsolve.specs.Inner.Nested.{IsStep}
use Rattle.wc_nestsolve.specs.Inner.Tables.{IsBestIn, IsLooked, better_of, worth_of}

pub better_up : (found : Option Found) (w : Option ℕ) (place : ℕ) (f : Found) → found ≡ Some f → (g : Found) × (better_of found w place ≡ Some g) × (f.value ≤ g.value)
better_up None w place f is = cc
better_up (Some h) None place f is = (h, refl, let same : f ≡ h = cc in omega (arith, ap (λ x. x.value) same))
better_up (Some h) (Some z) place f is = by (nat_le z h.value) refl
  where
    same : f ≡ h
    same = cc

    by : (b : Bool) → nat_le z h.value ≡ b → (g : Found) × ((if b then Some h else Some (record { value = z; place = place })) ≡ Some g) × (f.value ≤ g.value)
    by true le = (h, refl, omega (arith, ap (λ x. x.value) same))
    by false more = (record { value = z; place = place }, refl, let high : h.value < z = grind (arith, nat_tests) in omega (arith, ap (λ x. x.value) same))

pub better_new : (found : Option Found) (z place : ℕ) → (g : Found) × (better_of found (Some z) place ≡ Some g) × (z ≤ g.value)
better_new None z place = (record { value = z; place = place }, refl, omega arith)
better_new (Some h) z place = by (nat_le z h.value) refl
  where
    by : (b : Bool) → nat_le z h.value ≡ b → (g : Found) × ((if b then Some h else Some (record { value = z; place = place })) ≡ Some g) × (z ≤ g.value)
    by true le = (h, refl, grind (arith, nat_tests))
    by false more = (record { value = z; place = place }, refl, omega arith)

pub better_one : (found : Option Found) (w : Option ℕ) (place : ℕ) (g : Found) → better_of found w place ≡ Some g → (found ≡ Some g) ⊎ ((w ≡ Some g.value) × (g.place ≡ place))
better_one found None place g is = inl is
better_one None (Some z) place g is = let same : g ≡ record { value = z; place = place } = cc in inr (ap Some (sym (ap (λ x. x.value) same)), ap (λ x. x.place) same)
better_one (Some h) (Some z) place g is = by (nat_le z h.value) is
  where
    by : (b : Bool) → (if b then Some h else Some (record { value = z; place = place })) ≡ Some g → (Some h ≡ Some g) ⊎ ((Some z ≡ Some g.value) × (g.place ≡ place))
    by true is' = inl is'
    by false is' = let same : g ≡ record { value = z; place = place } = cc in inr (ap Some (sym (ap (λ x. x.value) same)), ap (λ x. x.place) same)

pub best_none : (s : System) (nest : Nest) (goal : Option ℕ) (extra : List ℕ) (best : List (Option Found)) (from : ℕ) → IsBestIn s nest goal extra best from from None
best_none s nest goal extra best from = record { most = λ i z t at low high worth. absurd (omega arith); attained = λ f is. cc }

module _ (s : System) (nest : Nest) (goal : Option ℕ) (extra : List ℕ) (best : List (Option Found)) (from place : ℕ) (found new : Option Found)
    (old : IsBestIn s nest goal extra best from place found) (ordered : from ≤ place) (looked : IsLooked s nest goal extra best place found new) where
  pub best_more : IsBestIn s nest goal extra best from (place + 1) new
  best_more = record {
    most = λ i z t at low high worth. most_at i z t at low high worth (cases_lt i place);
    attained = λ f is. one f (better_one found (worth_of goal (is_marked nest place) looked.0 extra best) place f (sym looked.2 ∙ is));
  }
    where
      most_at : (i z : ℕ) (t : SystemStep) → IsStep s nest i t → from ≤ i → i < place + 1 → worth_of goal (is_marked nest i) t extra best ≡ Some z → (i < place) ⊎ (place ≤ i) → (f : Found) × (new ≡ Some f) × (z ≤ f.value)
      most_at i z t at low high worth (inl less) =
          let before = old.most i z t at low less worth in
          let up = better_up found (worth_of goal (is_marked nest place) looked.0 extra best) place before.0 before.1 in
          (up.0, looked.2 ∙ up.1, omega (arith, before.2, up.2))
      most_at i z t at low high worth (inr more) =
          let same : i ≡ place = omega arith in
          let step : t ≡ looked.0 = same_Some t looked.0 (sym at ∙ ap (λ n. slice_get s.steps n) same ∙ looked.1) in
          let value : worth_of goal (is_marked nest place) looked.0 extra best ≡ Some z = sym (ap (λ n. worth_of goal (is_marked nest n) looked.0 extra best) same) ∙ sym (ap (λ x. worth_of goal (is_marked nest i) x extra best) step) ∙ worth in
          let up = better_new found z place in
          (up.0, looked.2 ∙ ap (λ o. better_of found o place) value ∙ up.1, up.2)

      one : (f : Found) → (found ≡ Some f) ⊎ ((worth_of goal (is_marked nest place) looked.0 extra best ≡ Some f.value) × (f.place ≡ place))
          → (t : SystemStep) × IsStep s nest f.place t × (from ≤ f.place) × (f.place < place + 1) × (worth_of goal (is_marked nest f.place) t extra best ≡ Some f.value)
      one f (inl before) = let found' = old.attained f before in (found'.0, found'.1, found'.2, omega (arith, found'.3), found'.4)
      one f (inr here) = (looked.0, ap (slice_get s.steps) here.1 ∙ looked.1, omega (arith, here.1), omega (arith, here.1), ap (λ n. worth_of goal (is_marked nest n) looked.0 extra best) here.1 ∙ here.0)
