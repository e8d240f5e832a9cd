use Rattle.std.proofs.Common.{ℕ, ◌≡◌, ◌<◌, List, [], ◌∷◌, ◌++◌, None, length, set, sym, ap, subst, ◌∙◌, arith}
use Rattle.std.specs.List.{slice_get}
use Rattle.wc_model.proofs.Places.{get_within}
use Rattle.wc_graph.specs.declared.frames.Place.{Place}
use Rattle.wc_graph.specs.Inner.Finds.{Finds}
use Rattle.wc_graph.specs.Inner.Numbers.{HasNumber}
use Rattle.wc_graph.specs.Inner.Places.{AreFound, slot_of}
use Rattle.wc_graph.proofs.FoundLemmas.{found_more, found_put, number_more}
use Rattle.wc_graph.proofs.places.Places.number_of.Goals as goal

pub invariant_of-self : goal.invariant_of-self
invariant_of-self c = subst (AreFound c.self.inside.places.items) (sym c.in_err-add.ensures.err) c.self.invariant

pub invariant_of-self-in_err-push : goal.invariant_of-self-in_err-push
invariant_of-self-in_err-push c =
    let places : List Place = c.self.inside.places.items in
    let buckets : List (List ℕ) = c.self.inside.buckets in
    let place : Place = c.args.place in
    let slot : c.slot-bucket.result ≡ slot_of place = c.slot-bucket.ensures.slot in
    let inside : slot_of place < length buckets = omega (arith, c.slot-bucket.ensures.inside, slot, c.self.invariant.counted) in
    let own = get_within buckets (slot_of place) inside in
    let n : ℕ = c.len-number.result in
    let put : c.add.new.self ≡ set buckets (slot_of place) (n ∷ own.0) = subst (λ (t : ℕ). c.add.new.self ≡ set buckets t (n ∷ own.0)) slot (c.in_ok-add.ensures.added own.0 (ap (slice_get buckets) slot ∙ own.1)) in
    subst (λ (ps : List Place). AreFound ps c.add.new.self) (sym c.in_err-push.ensures.items) (subst (AreFound places) (sym put) (found_put places buckets place own.0 own.1 c.self.invariant n))

pub invariant_of-self-2 : goal.invariant_of-self-2
invariant_of-self-2 c =
    let places : List Place = c.self.inside.places.items in
    let buckets : List (List ℕ) = c.self.inside.buckets in
    let place : Place = c.args.place in
    let slot : c.slot-bucket.result ≡ slot_of place = c.slot-bucket.ensures.slot in
    let inside : slot_of place < length buckets = omega (arith, c.slot-bucket.ensures.inside, slot, c.self.invariant.counted) in
    let own = get_within buckets (slot_of place) inside in
    let n : ℕ = c.len-number.result in
    let last : n ≡ length places = omega (arith, c.len-number.ensures, c.self.inside.places.ok.0) in
    let put : c.add.new.self ≡ set buckets (slot_of place) (n ∷ own.0) = subst (λ (t : ℕ). c.add.new.self ≡ set buckets t (n ∷ own.0)) slot (c.in_ok-add.ensures.added own.0 (ap (slice_get buckets) slot ∙ own.1)) in
    subst (λ (ps : List Place). AreFound ps c.add.new.self) (sym c.in_ok-push.ensures.items) (subst (AreFound (places ++ place ∷ [])) (sym (put ∙ ap (λ (m : ℕ). set buckets (slot_of place) (m ∷ own.0)) last)) (found_more places buckets place own.0 own.1 c.self.invariant))

pub returns : goal.returns
returns c =
    let places : List Place = c.self.inside.places.items in
    let buckets : List (List ℕ) = c.self.inside.buckets in
    let place : Place = c.args.place in
    let slot : c.slot-bucket.result ≡ slot_of place = c.slot-bucket.ensures.slot in
    let inside : slot_of place < length buckets = omega (arith, c.slot-bucket.ensures.inside, slot, c.self.invariant.counted) in
    let own = get_within buckets (slot_of place) inside in
    let n : ℕ = c.len-number.result in
    let last : n ≡ length places = omega (arith, c.len-number.ensures, c.self.inside.places.ok.0) in
    let same : places ≡ c.args.self.now.keys = ap (λ f. f.keys) c.self.view_is in
    let found : Finds buckets c.slot-bucket.result c.as_slice.result.now place None = subst (Finds buckets c.slot-bucket.result c.as_slice.result.now place) c.in_default.is c.find.ensures in
    let none : Finds buckets (slot_of place) places place None = subst (λ (t : ℕ). Finds buckets t places place None) slot (subst (λ (ps : List Place). Finds buckets c.slot-bucket.result ps place None) c.as_slice.ensures.value found) in
    subst (λ (ps : List Place). HasNumber ps c.push.new.self.items place n) same (subst (λ (ps : List Place). HasNumber places ps place n) (sym c.in_ok-push.ensures.items) (number_more places buckets place own.0 own.1 c.self.invariant n last none))
