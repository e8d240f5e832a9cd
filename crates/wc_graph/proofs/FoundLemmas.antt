-- A place more in its bucket.
use Rattle.std.proofs.Common.{ℕ, ◌≡◌, ◌≢◌, inl, inr, ⊎_elim, List, [], ◌∷◌, ◌++◌, None, Some, length, replicate, set, refl, sym, ap, subst, ◌∙◌}
use Rattle.std.specs.List.{slice_get, Contains}
use Rattle.std.proofs.lemmas.List.{length-replicate, length-set}
use Rattle.std.proofs.lemmas.Option.{none-some}
use Rattle.wc_model.proofs.Places.{get_from_contains, get_push, get_push_cases, get_set_cases}
use Rattle.wc_graph.specs.declared.frames.Place.{Place}
use Rattle.wc_graph.specs.Inner.Finds.{Finds}
use Rattle.wc_graph.specs.Inner.Lists.{Has}
use Rattle.wc_graph.specs.Inner.Numbers.{HasNumber}
use Rattle.wc_graph.specs.Inner.Places.{AreFound, slot_of}

pub found_none : (buckets : List (List ℕ)) (places : List Place) (count : ℕ) → count ≡ 32768 → places ≡ [] → buckets ≡ replicate count [] → AreFound places buckets
found_none buckets places count slots none is = record {
  counted = ap length is ∙ length-replicate count [] ∙ slots;
  there = λ k x own at. absurd (none-some x (subst (λ (ps : List Place). slice_get ps k ≡ Some x) none at));
}

module _ (places : List Place) (buckets : List (List ℕ)) (place : Place) (own : List ℕ) (at : slice_get buckets (slot_of place) ≡ Some own) (are : AreFound places buckets) where
  pub found_put : (n : ℕ) → AreFound places (set buckets (slot_of place) (n ∷ own))
  found_put n = record {
    counted = length-set buckets (slot_of place) (n ∷ own) ∙ are.counted;
    there = λ k x w at_x at_w. ⊎_elim
        (λ (here : (slot_of x ≡ slot_of place) × ((n ∷ own) ≡ w)). subst (λ (xs : List ℕ). Has xs k) here.1 (inr (are.there k x own at_x (ap (slice_get buckets) here.0 ∙ at))))
        (λ (other : (slot_of x ≢ slot_of place) × (slice_get buckets (slot_of x) ≡ Some w)). are.there k x w at_x other.1)
        (get_set_cases buckets (slot_of place) (slot_of x) (n ∷ own) w at_w);
  }

  pub found_more : AreFound (places ++ place ∷ []) (set buckets (slot_of place) (length places ∷ own))
  found_more = record {
    counted = (found_put (length places)).counted;
    there = λ k x w at_x at_w. ⊎_elim
        (λ (old : slice_get places k ≡ Some x). (found_put (length places)).there k x w old at_w)
        (λ (last : (k ≡ length places) × (place ≡ x)). ⊎_elim
        (λ (here : (slot_of x ≡ slot_of place) × ((length places ∷ own) ≡ w)). subst (λ (xs : List ℕ). Has xs k) here.1 (inl (sym last.0)))
        (λ (other : (slot_of x ≢ slot_of place) × (slice_get buckets (slot_of x) ≡ Some w)). absurd (other.0 (ap slot_of (sym last.1))))
        (get_set_cases buckets (slot_of place) (slot_of x) (length places ∷ own) w at_w))
        (get_push_cases places place k x at_x);
  }

  pub number_more : (n : ℕ) → n ≡ length places → Finds buckets (slot_of place) places place None → HasNumber places (places ++ place ∷ []) place n
  number_more n last none = record {
    is = ap (slice_get (places ++ place ∷ [])) last ∙ get_push places place;
    grown = inr (last, not_there, refl);
  }
    where
      not_there : Contains places place → ⊥
      not_there among = let k = get_from_contains places place among in none own k.0 at (are.there k.0 place own k.1 at) k.1
