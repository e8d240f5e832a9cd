-- Tables of the best ways: one more node, equal tables, changed surcharges.
use Rattle.std.proofs.Common.{◌≡◌, ℕ, zero, suc, ◌+◌, ◌<◌, ◌≤◌, ◌⊎◌, inl, inr, slice_get, slice_index, set, length, Option, Some, None, option_map, Bool, true, false, List, refl, sym, ap, subst, ◌∙◌, arith}
use Rattle.std.proofs.lemmas.Option.{same_Some}
use Rattle.std.proofs.lemmas.Bool.{cases_lt, cases_eq}
use Rattle.std.proofs.lemmas.List.{get_or-set_same, get_or-set_other}
use Rattle.wc_model.specs.declared.flow_system.System.{System}
use Rattle.wc_model.specs.declared.flow_system.SystemStep.{SystemStep}
use Rattle.wc_model.specs.declared.graphs.Nest.{Nest}
use Rattle.wc_model.specs.Flow.Systems.{is_marked}
use Rattle.wc_nestsolve.specs.declared.found.Found.{Found}
use Rattle.wc_nestsolve.specs.Inner.Nested.{IsStep}
use Rattle.wc_nestsolve.specs.Inner.Tables.{IsAmong, IsAttained, IsBestOf, IsDownward, IsTable, found_at, reach, value_of_found, worth_of}

-- what a step is worth depends on what is found where it leads, and on that node's surcharge
pub reach_same : (goal : Option ℕ) (back : Bool) (cost : ℕ) (o : Option ℕ) (extra more : List ℕ) (best other : List (Option Found))
    → ((q : ℕ) → o ≡ Some q → back ≡ false → option_map (λ f. cost + (slice_index extra q + f.value)) (found_at best q) ≡ option_map (λ f. cost + (slice_index more q + f.value)) (found_at other q))
    → reach goal back cost o extra best ≡ reach goal back cost o more other
reach_same goal back cost None extra more best other same = refl
reach_same goal true cost (Some q) extra more best other same = refl
reach_same goal false cost (Some q) extra more best other same = same q refl refl

module _ (s : System) (nest : Nest) (goal : Option ℕ) (extra : List ℕ) (nodes : List ℕ) (down : IsDownward s nest nodes) where
  -- one more node of the list
  module _ (best : List (Option Found)) (i p : ℕ) (here : slice_get nodes i ≡ Some p) (known : p < length best) (found : Option Found)
      (old : IsTable s nest goal (IsAmong s nest nodes i) extra best) (is : IsBestOf s nest goal p extra best found) where
    abbrev next : List (Option Found)
    next = set best p found

    kept : (q : ℕ) → (q ≡ p → ⊥) → found_at next q ≡ found_at best q
    kept q apart = get_or-set_other best p q found None apart

    new : found_at next p ≡ found
    new = get_or-set_same best p found None known

    worth_same : (n j : ℕ) (t : SystemStep) → IsStep s nest n t → slice_get nodes j ≡ Some t.source → j < i + 1 → worth_of goal (is_marked nest n) t extra next ≡ worth_of goal (is_marked nest n) t extra best
    worth_same n j t at from less = reach_same goal (is_marked nest n) t.cost t.target extra extra next best
        (λ q to ahead. ap (option_map (λ f. t.cost + (slice_index extra q + f.value))) (kept q (λ same. let low = down.lower n j i q t at ahead to from (here ∙ ap Some (sym same)) in omega arith)))

    before : (j q : ℕ) → j < i + 1 → slice_get nodes j ≡ Some q → (q ≡ p → ⊥) → IsAmong s nest nodes i q
    before j q less at apart = by (cases_lt j i)
      where
        by : (j < i) ⊎ (i ≤ j) → IsAmong s nest nodes i q
        by (inl low) = (j, low, at)
        by (inr high) =
            let same : j ≡ i = omega arith in
            absurd (apart (same_Some q p (sym at ∙ ap (slice_get nodes) same ∙ here)))

    later : (q : ℕ) → IsAmong s nest nodes i q → IsAmong s nest nodes (i + 1) q
    later q (j, less, at) = (j, omega arith, at)

    attained_next : (q j : ℕ) (f : Found) → j < i + 1 → slice_get nodes j ≡ Some q → IsAttained s nest goal extra best q f → IsAttained s nest goal extra next q f
    attained_next q j f less at by =
        record { step = by.step; at = by.at; source = by.source; worth = worth_same f.place j by.step by.at (at ∙ ap Some (sym by.source)) less ∙ by.worth }

    pub table_more : IsTable s nest goal (IsAmong s nest nodes (i + 1)) extra next
    table_more = record {
      within = λ q f at. within_at q f at (cases_eq q p);
      most = λ n z t at inside worth. most_at n z t at inside (sym (worth_same n inside.0 t at inside.2 inside.1) ∙ worth) (cases_eq t.source p);
      attained = λ q f at. attained_at q f at (cases_eq q p);
    }
      where
        within_at : (q : ℕ) (f : Found) → found_at next q ≡ Some f → (q ≡ p) ⊎ (q ≡ p → ⊥) → IsAmong s nest nodes (i + 1) q
        within_at q f at (inl same) = (i, omega arith, here ∙ ap Some (sym same))
        within_at q f at (inr apart) = later q (old.within q f (sym (kept q apart) ∙ at))

        most_at : (n z : ℕ) (t : SystemStep) → IsStep s nest n t → IsAmong s nest nodes (i + 1) t.source → worth_of goal (is_marked nest n) t extra best ≡ Some z → (t.source ≡ p) ⊎ (t.source ≡ p → ⊥) → (f : Found) × (found_at next t.source ≡ Some f) × (z ≤ f.value)
        most_at n z t at inside worth (inl same) = let top = is.most n z t at same worth in (top.0, ap (found_at next) same ∙ new ∙ top.1, top.2)
        most_at n z t at inside worth (inr apart) = let top = old.most n z t at (before inside.0 t.source inside.1 inside.2 apart) worth in (top.0, kept t.source apart ∙ top.1, top.2)

        attained_at : (q : ℕ) (f : Found) → found_at next q ≡ Some f → (q ≡ p) ⊎ (q ≡ p → ⊥) → IsAttained s nest goal extra next q f
        attained_at q f at (inl same) =
            let mine = is.attained f (sym new ∙ ap (found_at next) (sym same) ∙ at) in
            subst (λ r. IsAttained s nest goal extra next r f) (sym same) (attained_next p i f (omega arith) here mine)
        attained_at q f at (inr apart) =
            let there : found_at best q ≡ Some f = sym (kept q apart) ∙ at in
            let inside = old.within q f there in
            attained_next q inside.0 f (omega (arith, inside.1)) inside.2 (old.attained q f there)

  -- two tables have the same values
  module _ (Inside : ℕ → Type 0) (stands : (p : ℕ) → Inside p → (j : ℕ) × (slice_get nodes j ≡ Some p))
      (best other : List (Option Found)) (one : IsTable s nest goal Inside extra best) (two : IsTable s nest goal Inside extra other) where
    reaches : (n j z : ℕ) (t : SystemStep) (o : Option ℕ) (back : Bool) → t.target ≡ o → is_marked nest n ≡ back → reach goal back t.cost o extra best ≡ Some z
        → ((q : ℕ) (f : Found) → t.target ≡ Some q → is_marked nest n ≡ false → found_at best q ≡ Some f → (g : Found) × (found_at other q ≡ Some g) × (f.value ≤ g.value))
        → (y : ℕ) × (reach goal back t.cost o extra other ≡ Some y) × (z ≤ y)
    reaches n j z t None back to is worth lower = (z, worth, omega arith)
    reaches n j z t (Some q) true to is worth lower = (z, worth, omega arith)
    reaches n j z t (Some q) false to is worth lower = by (found_at best q) refl worth
      where
        by : (o : Option Found) → found_at best q ≡ o → option_map (λ f. t.cost + (slice_index extra q + f.value)) o ≡ Some z → (y : ℕ) × (reach goal false t.cost (Some q) extra other ≡ Some y) × (z ≤ y)
        by None at gives = cc
        by (Some f) at gives =
            let g = lower q f to is at in (
              t.cost + (slice_index extra q + g.0.value),
              ap (option_map (λ h. t.cost + (slice_index extra q + h.value))) g.1,
              omega (arith, same_Some (t.cost + (slice_index extra q + f.value)) z gives, g.2),
            )

    low : (n j p : ℕ) (f : Found) → j < n → slice_get nodes j ≡ Some p → found_at best p ≡ Some f → (g : Found) × (found_at other p ≡ Some g) × (f.value ≤ g.value)
    low zero j p f less at found = absurd (omega arith)
    low (suc n) j p f less at found =
        let way = one.attained p f found in
        let up = reaches f.place j f.value way.step way.step.target (is_marked nest f.place) refl refl way.worth
        (λ q h to ahead there.
        let place = stands q (one.within q h there) in
        let less' = down.lower f.place j place.0 q way.step way.at ahead to (at ∙ ap Some (sym way.source)) place.1 in
        low n place.0 q h (omega arith) place.1 there) in
        let top = two.most f.place up.0 way.step way.at (subst Inside (sym way.source) (one.within p f found)) up.1 in
        (top.0, ap (found_at other) (sym way.source) ∙ top.1, omega (arith, up.2, top.2))

    pub table_low : (p : ℕ) (f : Found) → found_at best p ≡ Some f → (g : Found) × (found_at other p ≡ Some g) × (f.value ≤ g.value)
    table_low p f found = let place = stands p (one.within p f found) in low (place.0 + 1) place.0 p f (omega arith) place.1 found

  pub table_same : (Inside : ℕ → Type 0) → ((p : ℕ) → Inside p → (j : ℕ) × (slice_get nodes j ≡ Some p)) → (best other : List (Option Found)) → IsTable s nest goal Inside extra best → IsTable s nest goal Inside extra other
      → (p : ℕ) → value_of_found (found_at best p) ≡ value_of_found (found_at other p)
  table_same Inside stands best other one two p = by (found_at best p) (found_at other p) refl refl
    where
      by : (a b : Option Found) → found_at best p ≡ a → found_at other p ≡ b → value_of_found a ≡ value_of_found b
      by None None at_a at_b = refl
      by None (Some g) at_a at_b = let f = table_low Inside stands other best two one p g at_b in absurd (never (sym at_a ∙ f.1))
        where
          never : {h : Found} → None ≡ Some h → ⊥
          never is = cc
      by (Some f) None at_a at_b = let g = table_low Inside stands best other one two p f at_a in absurd (never (sym at_b ∙ g.1))
        where
          never : {h : Found} → None ≡ Some h → ⊥
          never is = cc
      by (Some f) (Some g) at_a at_b =
          let up = table_low Inside stands best other one two p f at_a in
          let back = table_low Inside stands other best two one p g at_b in
          let same_g : g ≡ up.0 = same_Some g up.0 (sym at_b ∙ up.1) in
          let same_f : f ≡ back.0 = same_Some f back.0 (sym at_a ∙ back.1) in
          omega (arith, up.2, back.2, ap (λ h. h.value) same_g, ap (λ h. h.value) same_f)

-- the surcharge of one node changes, to which no step ahead leads inside
module _ (s : System) (nest : Nest) (goal : Option ℕ) (Inside : ℕ → Type 0) (extra more : List ℕ) (best : List (Option Found)) (c : ℕ)
    (agree : (q : ℕ) → (q ≡ c → ⊥) → slice_index more q ≡ slice_index extra q)
    (unread : (n : ℕ) (t : SystemStep) → IsStep s nest n t → is_marked nest n ≡ false → t.target ≡ Some c → Inside t.source → Inside c → ⊥)
    (table : IsTable s nest goal Inside extra best) where
  moved_worth : (n : ℕ) (t : SystemStep) → IsStep s nest n t → Inside t.source → worth_of goal (is_marked nest n) t more best ≡ worth_of goal (is_marked nest n) t extra best
  moved_worth n t at inside = reach_same goal (is_marked nest n) t.cost t.target more extra best best (λ q to ahead. by q to ahead (found_at best q) refl)
    where
      by : (q : ℕ) → t.target ≡ Some q → is_marked nest n ≡ false → (o : Option Found) → found_at best q ≡ o
          → option_map (λ f. t.cost + (slice_index more q + f.value)) o ≡ option_map (λ f. t.cost + (slice_index extra q + f.value)) o
      by q to ahead None there = refl
      by q to ahead (Some f) there = ap (λ z. Some (t.cost + (z + f.value))) (agree q (λ same. unread n t at ahead (to ∙ ap Some same) inside (subst Inside same (table.within q f there))))

  pub table_moved : IsTable s nest goal Inside more best
  table_moved = record {
    within = table.within;
    most = λ n z t at inside worth. table.most n z t at inside (sym (moved_worth n t at inside) ∙ worth);
    attained = λ p f at.
        let by = table.attained p f at in
        record { step = by.step; at = by.at; source = by.source; worth = moved_worth f.place by.step by.at (subst Inside (sym by.source) (table.within p f at)) ∙ by.worth };
  }

-- the same nodes in other words
pub table_inside : (s : System) (nest : Nest) (goal : Option ℕ) (A B : ℕ → Type 0) (extra : List ℕ) (best : List (Option Found))
    → ((p : ℕ) → A p → B p) → ((p : ℕ) → B p → A p) → IsTable s nest goal A extra best → IsTable s nest goal B extra best
table_inside s nest goal A B extra best to from table = record {
  within = λ p f at. to p (table.within p f at);
  most = λ n z t at inside worth. table.most n z t at (from t.source inside) worth;
  attained = table.attained;
}
