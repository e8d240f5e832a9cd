-- One more start.
use Rattle.std.proofs.Common.{ℕ, ◌≡◌, ◌+◌, ◌<◌, ◌≤◌, ⊎_elim, List, [], ◌∷◌, ◌++◌, Some, length, get_or, sym, ap, ◌∙◌, arith}
use Rattle.std.specs.List.{AllPairs, slice_get, slice_index}
use Rattle.std.proofs.lemmas.Bool.{cases_lt}
use Rattle.std.proofs.lemmas.List.{length_push, get_or_append_left, get_or_push}
use Rattle.std.proofs.lemmas.Option.{same_Some, slice_get_within, get_or_from_slice_get}
use Rattle.wc_model.specs.Flow.Ends.{Ends}
use Rattle.wc_model.specs.Flow.Walks.{AreStarts}
use Rattle.wc_model.proofs.Places.{get_within}

module _ {S : Type 0} (ends : S → Ends) where
  -- steps in order
  pub sorted_at : (steps : List S) (i j : ℕ) (s t : S) → AllPairs (λ s t. (ends s).source ≤ (ends t).source) steps → slice_get steps i ≡ Some s → slice_get steps j ≡ Some t → i ≤ j → (ends s).source ≤ (ends t).source
  sorted_at steps i j s t sorted ati atj le =
      let is_s : get_or steps i s ≡ s = get_or_from_slice_get steps i s s ati in
      let is_t : get_or steps j s ≡ t = get_or_from_slice_get steps j t s atj in
      let within : j < length steps = slice_get_within steps j t atj in
      ⊎_elim
      (λ (before : i < j).
      let rises : (ends (get_or steps i s)).source ≤ (ends (get_or steps j s)).source = sorted i j s before within in
      omega (arith, ap (λ (x : S). (ends x).source) is_s, ap (λ (x : S). (ends x).source) is_t))
      (λ (there : j ≤ i).
      let same : i ≡ j = omega arith in
      let one : s ≡ t = same_Some s t (sym ati ∙ ap (slice_get steps) same ∙ atj) in
      omega (arith, ap (λ (x : S). (ends x).source) one))
      (cases_lt i j)

  -- from where a step leaves `k` or a later node, all do
  pub from_there : (steps : List S) (k place i : ℕ) (s : S) → AllPairs (λ s t. (ends s).source ≤ (ends t).source) steps → ((t : S) → slice_get steps place ≡ Some t → k ≤ (ends t).source) → slice_get steps i ≡ Some s → place ≤ i → k ≤ (ends s).source
  from_there steps k place i s sorted high at later =
      let first : (t : S) × (slice_get steps place ≡ Some t) = get_within steps place (omega (arith, slice_get_within steps i s at)) in
      let least : k ≤ (ends first.0).source = high first.0 first.1 in
      let rises : (ends first.0).source ≤ (ends s).source = sorted_at steps place i first.0 s sorted first.1 at later in
      omega arith

  pub starts_more : (k : ℕ) (steps : List S) (starts : List ℕ) (place : ℕ) → AreStarts ends k steps starts → place ≤ length steps → ((i : ℕ) (s : S) → slice_get steps i ≡ Some s → i < place → (ends s).source < k) → ((i : ℕ) (s : S) → slice_get steps i ≡ Some s → place ≤ i → k ≤ (ends s).source) → AreStarts ends (k + 1) steps (starts ++ place ∷ [])
  starts_more k steps starts place old fits low high =
      record {
        counted = length_push starts place ∙ ap (λ (n : ℕ). n + 1) old.counted;
        inside = λ j within. ⊎_elim
            (λ (before : j < k). let same = earlier j before in let fine : slice_index starts j ≤ length steps = old.inside j before in omega arith)
            (λ (there : k ≤ j). let same = last j (omega arith) in omega arith)
            (cases_lt j k);
        below = λ j i s within at less. ⊎_elim
            (λ (before : j < k). let same = earlier j before in old.below j i s before at (omega arith))
            (λ (there : k ≤ j). let same = last j (omega arith) in let fine : (ends s).source < k = low i s at (omega arith) in omega arith)
            (cases_lt j k);
        from = λ j i s within at less. ⊎_elim
            (λ (before : j < k). let same = earlier j before in old.from j i s before at (omega arith))
            (λ (there : k ≤ j). let same = last j (omega arith) in let fine : k ≤ (ends s).source = high i s at (omega arith) in omega arith)
            (cases_lt j k);
      }
    where
      earlier : (j : ℕ) → j < k → slice_index (starts ++ place ∷ []) j ≡ slice_index starts j
      earlier j before = get_or_append_left starts (place ∷ []) 0 j (omega (arith, old.counted))

      last : (j : ℕ) → j ≡ k → slice_index (starts ++ place ∷ []) j ≡ place
      last j same = get_or_push starts place 0 j (omega (arith, old.counted))
