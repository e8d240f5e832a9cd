-- One more node of a class is raised.
use Rattle.std.proofs.Common.{◌≡◌, ℕ, ◌+◌, ◌<◌, ◌≤◌, ◌⊎◌, inl, inr, ℤ, List, length, set, slice_get, Option, Some, None, refl, sym, ap, subst, ◌∙◌, arith}
use Rattle.std.proofs.lemmas.Option.{same_Some}
use Rattle.std.proofs.lemmas.Bool.{cases_eq, cases_lt}
use Rattle.std.proofs.lemmas.List.{get_or-set_same, get_or-set_other, length-set}
use Rattle.wc_nestsolve.specs.declared.found.Found.{Found}
use Rattle.wc_nestsolve.specs.Inner.Potentials.{raised_by}
use Rattle.wc_nestsolve.specs.Inner.Raising.{AreRaisable, IsRaised, potential_at}
use Rattle.wc_nestsolve.specs.Inner.Tables.{found_at}

pub none_from : {X : Type 0} (o : Option X) → ((x : X) → o ≡ Some x → ⊥) → o ≡ None
none_from None none = refl
none_from (Some x) none = absurd (none x refl)

pub raise_begins : (class : List ℕ) (best : List (Option Found)) (from : ℤ) (u : List (Option ℤ)) → IsRaised class 0 best from u u
raise_begins class best from u = record { counted = refl; inside = λ j p less at. absurd (omega arith); outside = λ p none. refl }

module _ (class : List ℕ) (best : List (Option Found)) (from : ℤ) (old now next : List (Option ℤ)) (i p : ℕ) (are : AreRaisable class best old) (here : slice_get class i ≡ Some p)
    (is : IsRaised class i best from old now) (set_is : next ≡ set now p (raised_by (potential_at now p) (found_at best p) from)) where
  first : potential_at now p ≡ potential_at old p
  first = is.outside p (λ j less at. absurd (let one = are.once j i p at here in omega arith))

  own : potential_at next p ≡ raised_by (potential_at old p) (found_at best p) from
  own = ap (λ u. potential_at u p) set_is ∙ get_or-set_same now p (raised_by (potential_at now p) (found_at best p) from) None (omega (arith, is.counted, are.known_u i p here))
      ∙ ap (λ o. raised_by o (found_at best p) from) first

  other : (q : ℕ) → (q ≡ p → ⊥) → potential_at next q ≡ potential_at now q
  other q apart = ap (λ u. potential_at u q) set_is ∙ get_or-set_other now p q (raised_by (potential_at now p) (found_at best p) from) None apart

  pub raise_more : IsRaised class (i + 1) best from old next
  raise_more = record {
    counted = ap length set_is ∙ length-set now p (raised_by (potential_at now p) (found_at best p) from) ∙ is.counted;
    inside = λ j q less at. inside_at j q less at (cases_eq q p);
    outside = λ q none. other q (λ same. none i (omega arith) (here ∙ ap Some (sym same))) ∙ is.outside q (λ j less at. none j (omega arith) at);
  }
    where
      inside_at : (j q : ℕ) → j < i + 1 → slice_get class j ≡ Some q → (q ≡ p) ⊎ (q ≡ p → ⊥) → potential_at next q ≡ raised_by (potential_at old q) (found_at best q) from
      inside_at j q less at (inl same) = subst (λ r. potential_at next r ≡ raised_by (potential_at old r) (found_at best r) from) (sym same) own
      inside_at j q less at (inr apart) = by (cases_lt j i)
        where
          by : (j < i) ⊎ (i ≤ j) → potential_at next q ≡ raised_by (potential_at old q) (found_at best q) from
          by (inl low) = other q apart ∙ is.inside j q low at
          by (inr high) = let even : j ≡ i = omega arith in absurd (apart (same_Some q p (sym at ∙ ap (slice_get class) even ∙ here)))
