-- One number more has its place.
use Rattle.std.proofs.Common.{ℕ, ◌≡◌, ◌≢◌, ◌+◌, ◌<◌, ◌≤◌, ⊎_elim, List, Option, None, Some, length, replicate, set, sym, ap, subst, ◌∙◌, arith}
use Rattle.std.specs.List.{slice_get}
use Rattle.std.proofs.lemmas.Bool.{cases_eq, cases_lt}
use Rattle.std.proofs.lemmas.List.{length-set, length-replicate}
use Rattle.std.proofs.lemmas.Option.{none-some, same_Some}
use Rattle.wc_model.proofs.Places.{get_set, get_set_cases, get_set_other}
use Rattle.wc_graph.specs.Inner.Inverses.{IsPlacedTo}
use Rattle.wc_graph.proofs.ListLemmas.{get_filled}

pub placed_none : (count : ℕ) (listed : List ℕ) (places : List (Option ℕ)) → places ≡ replicate count None → IsPlacedTo count listed 0 places
placed_none count listed places is = record { counted = ap length is ∙ length-replicate count None; back = λ k i at. absurd (none-some i (sym (get_filled count k None (Some i) (subst (λ (xs : List (Option ℕ)). slice_get xs k ≡ Some (Some i)) is at)))); there = λ once i k less at. absurd (omega arith) }

pub placed_more : (count : ℕ) (listed : List ℕ) (number k : ℕ) (old new : List (Option ℕ)) → IsPlacedTo count listed number old → slice_get listed number ≡ Some k → k < count → new ≡ set old k (Some number) → IsPlacedTo count listed (number + 1) new
placed_more count listed number k old new placed at less is = record {
  counted = ap length is ∙ length-set old k (Some number) ∙ placed.counted;
  back = λ j i at_j. ⊎_elim
      (λ (here : (j ≡ k) × (Some number ≡ Some i)).
      let same : number ≡ i = same_Some number i here.1 in
      (omega (arith, same), subst (λ (n : ℕ). slice_get listed n ≡ Some j) same (at ∙ ap Some (sym here.0))))
      (λ (other : (j ≢ k) × (slice_get old j ≡ Some (Some i))).
      let before = placed.back j i other.1 in
      (omega (arith, before.0), before.1))
      (get_set_cases old k j (Some number) (Some i) (subst (λ (xs : List (Option ℕ)). slice_get xs j ≡ Some (Some i)) is at_j));
  there = λ once i j less_i at_i. subst (λ (xs : List (Option ℕ)). slice_get xs j ≡ Some (Some i)) (sym is) (⊎_elim
      (λ (same : j ≡ k).
      let one : i ≡ number = once i number k (at_i ∙ ap Some same) at in
      subst (λ (n : ℕ). slice_get (set old k (Some number)) n ≡ Some (Some i)) (sym same) (get_set old k (Some number) (omega (arith, less, placed.counted)) ∙ ap (λ (n : ℕ). Some (Some n)) (sym one)))
      (λ (apart : j ≡ k → ⊥).
      let before : i < number = ⊎_elim (λ (is_less : i < number). is_less) (λ (last : number ≤ i). let one : i ≡ number = omega arith in absurd (apart (same_Some j k (sym at_i ∙ ap (slice_get listed) one ∙ at)))) (cases_lt i number) in
      get_set_other old k j (Some number) (Some i) apart (placed.there once i j before at_i))
      (cases_eq j k));
}
