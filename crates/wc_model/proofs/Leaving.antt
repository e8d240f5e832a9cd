-- The steps of a node are those between its start and the next one.
use Rattle.std.proofs.Common.{ℕ, ◌≡◌, ◌+◌, ◌-◌, ◌<◌, ◌≤◌, ⊎_elim, List, Some, length, drop, get_or, sym, ap, ◌∙◌, arith}
use Rattle.std.specs.List.{Contains, slice_get, slice_index, slice_range}
use Rattle.std.proofs.lemmas.Bool.{cases_lt}
use Rattle.std.proofs.lemmas.List.{get_or-take, get_or-drop, length-take, length-drop}
use Rattle.std.proofs.lemmas.Option.{get_or_from_slice_get, slice_get-get_or}
use Rattle.wc_model.specs.Flow.Ends.{Ends}
use Rattle.wc_model.specs.Flow.Walks.{AreStarts, AreStepsOf}
use Rattle.wc_model.proofs.Places.{contains_from_get, get_from_contains, get_within}

module _ {S : Type 0} (ends : S → Ends) (steps : List S) (starts : List ℕ) (p from to : ℕ) (parts : AreStarts ends (length starts) steps starts) (known : p + 1 < length starts) (is_from : from ≡ slice_index starts p) (is_to : to ≡ slice_index starts (p + 1)) where
  pub within : to ≤ length steps
  within = omega (arith, parts.inside (p + 1) known)

  pub rises : from ≤ to
  rises = ⊎_elim (λ (falls : to < from). absurd (never falls)) (λ (fine : from ≤ to). fine) (cases_lt to from)
    where
      never : to < from → ⊥
      never falls =
          let inside : slice_index starts p ≤ length steps = parts.inside p (omega arith) in
          let found : (s : S) × (slice_get steps to ≡ Some s) = get_within steps to (omega arith) in
          let before : (ends found.0).source < p = parts.below p to found.0 (omega arith) found.1 (omega arith) in
          let after : p + 1 ≤ (ends found.0).source = parts.from (p + 1) to found.0 known found.1 (omega arith) in
          omega arith

  inside : (s : S) → Contains (slice_range steps from to) s → Contains steps s × ((ends s).source ≡ p)
  inside s among =
      let k = among.0 in
      let short : k < to - from = omega (arith, among.1, length-take (to - from) (drop from steps), length-drop from steps) in
      let at : get_or steps (from + k) s ≡ s = sym (get_or-take (to - from) (drop from steps) k s short ∙ get_or-drop from steps k s) ∙ among.2 in
      let got : slice_get steps (from + k) ≡ Some s = slice_get-get_or steps (from + k) s (omega (arith, within)) ∙ ap Some at in
      let low : p ≤ (ends s).source = parts.from p (from + k) s (omega arith) got (omega arith) in
      let high : (ends s).source < p + 1 = parts.below (p + 1) (from + k) s known got (omega arith) in
      (contains_from_get steps (from + k) s got, omega arith)

  all : (s : S) → Contains steps s → (ends s).source ≡ p → Contains (slice_range steps from to) s
  all s among at =
      let placed : (k : ℕ) × (slice_get steps k ≡ Some s) = get_from_contains steps s among in
      let k = placed.0 in
      let low : from ≤ k = ⊎_elim (λ (less : k < from). let bad : (ends s).source < p = parts.below p k s (omega arith) placed.1 (omega arith) in absurd (omega arith)) (λ (fine : from ≤ k). fine) (cases_lt k from) in
      let high : k < to = ⊎_elim (λ (fine : k < to). fine) (λ (more : to ≤ k). let bad : p + 1 ≤ (ends s).source = parts.from (p + 1) k s known placed.1 (omega arith) in absurd (omega arith)) (cases_lt k to) in
      let there : from + (k - from) ≡ k = omega arith in (
        k - from,
        omega (arith, within, length-take (to - from) (drop from steps), length-drop from steps),
        get_or-take (to - from) (drop from steps) (k - from) s (omega arith) ∙ get_or-drop from steps (k - from) s ∙ ap (λ (n : ℕ). get_or steps n s) there ∙ get_or_from_slice_get steps k s s placed.1,
      )

  pub are_steps_of : AreStepsOf ends steps p (slice_range steps from to)
  are_steps_of = record { inside = inside; all = all }
