-- A table is filled node by node.
use Rattle.std.proofs.Common.{◌≡◌, ℕ, zero, suc, ◌==◌, ◌+◌, ◌<◌, ◌≤◌, ◌⊎◌, inl, inr, max, slice_get, slice_index, set, length, take, List, [], ◌∷◌, Option, Some, None, option_map, Bool, true, false, if◌then◌else◌, refl, sym, ap, subst, ◌∙◌, arith}
use Rattle.std.proofs.lemmas.Bool.{cases_lt, cases_eq}
use Rattle.std.proofs.lemmas.List.{get_or-set_same, get_or-set_other, length-set}
use Rattle.std.proofs.lemmas.List.Sums.{sum_by_more, sum_by-take-le}
use Rattle.std.proofs.lemmas.Option.{get_or_from_slice_get, same_Some, slice_get_within}
use Rattle.std.specs.List.{sum_by}
use Rattle.wc_model.specs.declared.flow_system.System.{System}
use Rattle.wc_model.specs.declared.flow_system.SystemStep.{SystemStep}
use Rattle.wc_model.specs.declared.graphs.Nest.{Nest}
use Rattle.wc_model.specs.Flow.Ceiling.{dearest}
use Rattle.wc_model.specs.Flow.Ends.{system_ends}
use Rattle.wc_model.specs.Flow.Systems.{is_marked, leads_to}
use Rattle.wc_model.specs.Flow.Walks.{AreStarts}
use Rattle.wc_nestsolve.specs.declared.found.Found.{Found}
use Rattle.wc_nestsolve.specs.Inner.Tables.{AreFillable, AreSmall, IsBestIn, IsBestOf, IsClear, IsFilled, StandIn, charge, found_at, reach}
use Rattle.wc_nestsolve.proofs.TableLemmas.{table_more}
use Rattle.wc_nestsolve.proofs.WeightLemmas.{test_same}

-- a step costs at most what the dearest of its node does
pub dearest_low : (steps : List SystemStep) (i p : ℕ) (t : SystemStep) → slice_get steps i ≡ Some t → t.source ≡ p → t.cost ≤ dearest steps p
dearest_low [] i p t at from = cc
dearest_low (x ∷ steps) zero p t at from =
    let same : x ≡ t = cc in
    let here : (x.source == p) ≡ true = test_same x.source p (ap (λ y. y.source) same ∙ from) in
    subst (λ b. t.cost ≤ (if b then max x.cost (dearest steps p) else dearest steps p)) (sym here) (omega (arith, ap (λ y. y.cost) same))
dearest_low (x ∷ steps) (suc i) p t at from = by (x.source == p) (dearest_low steps i p t at from)
  where
    by : (b : Bool) → t.cost ≤ dearest steps p → t.cost ≤ (if b then max x.cost (dearest steps p) else dearest steps p)
    by true low = omega arith
    by false low = low

-- the steps of a node stand from its place to the next one
module _ (count : ℕ) (steps : List SystemStep) (starts : List ℕ) (are : AreStarts system_ends (count + 1) steps starts) (p : ℕ) (known : p < count) where
  pub starts_fit : slice_index starts (p + 1) ≤ length steps
  starts_fit = are.inside (p + 1) (omega arith)

  pub starts_ordered : slice_index starts p ≤ slice_index starts (p + 1)
  starts_ordered = by (cases_lt (slice_index starts (p + 1)) (slice_index starts p))
    where
      there : (xs : List SystemStep) (i : ℕ) → i < length xs → (t : SystemStep) × (slice_get xs i ≡ Some t)
      there [] i less = absurd (omega arith)
      there (x ∷ xs) zero less = (x, refl)
      there (x ∷ xs) (suc i) less = there xs i (omega arith)

      by : (slice_index starts (p + 1) < slice_index starts p) ⊎ (slice_index starts p ≤ slice_index starts (p + 1)) → slice_index starts p ≤ slice_index starts (p + 1)
      by (inl less) =
          let step = there steps (slice_index starts (p + 1)) (omega (arith, are.inside p (omega arith))) in
          let low = are.below p (slice_index starts (p + 1)) step.0 (omega arith) step.1 less in
          let high = are.from (p + 1) (slice_index starts (p + 1)) step.0 (omega arith) step.1 (omega arith) in
          absurd (omega (arith, low, high))
      by (inr fine) = fine

  pub step_between : (i : ℕ) (t : SystemStep) → slice_get steps i ≡ Some t → t.source ≡ p → (slice_index starts p ≤ i) × (i < slice_index starts (p + 1))
  step_between i t at from = (low (cases_lt i (slice_index starts p)), high (cases_lt i (slice_index starts (p + 1))))
    where
      low : (i < slice_index starts p) ⊎ (slice_index starts p ≤ i) → slice_index starts p ≤ i
      low (inl less) = absurd (let before = are.below p i t (omega arith) at less in omega (arith, before, from))
      low (inr fine) = fine

      high : (i < slice_index starts (p + 1)) ⊎ (slice_index starts (p + 1) ≤ i) → i < slice_index starts (p + 1)
      high (inl fine) = fine
      high (inr more) = absurd (let after = are.from (p + 1) i t (omega arith) at more in omega (arith, after, from))

  pub between_step : (i : ℕ) (t : SystemStep) → slice_get steps i ≡ Some t → slice_index starts p ≤ i → i < slice_index starts (p + 1) → t.source ≡ p
  between_step i t at low high = let after = are.from p i t (omega arith) at low in let before = are.below (p + 1) i t (omega arith) at high in omega (arith, after, before)

  pub best_of : (s : System) (nest : Nest) → s.steps ≡ steps → (goal : Option ℕ) (extra : List ℕ) (best : List (Option Found)) (found : Option Found)
      → IsBestIn s nest goal extra best (slice_index starts p) (slice_index starts (p + 1)) found → IsBestOf s nest goal p extra best found
  best_of s nest same goal extra best found is = record {
    most = λ i z t at from worth. let place = step_between i t (ap (λ xs. slice_get xs i) (sym same) ∙ at) from in is.most i z t at place.0 place.1 worth;
    attained = λ f here.
        let way = is.attained f here in
        record { step = way.0; at = way.1; source = between_step f.place way.0 (ap (λ xs. slice_get xs f.place) (sym same) ∙ way.1) way.2 way.3; worth = way.4 };
  }

module _ (s : System) (nest : Nest) (goal : Option ℕ) (extra nodes : List ℕ) where
  pub fill_begins : (best : List (Option Found)) → length best ≡ s.nodes → IsClear best → IsFilled s nest goal extra nodes 0 best
  fill_begins best counted clear = record {
    counted = counted;
    table = record {
      within = λ p f at. let none = clear p in cc;
      most = λ i z t at inside worth. absurd (omega (arith, inside.1));
      attained = λ p f at. let none = clear p in cc;
    };
    low = λ p f at. let none = clear p in cc;
  }

  pub fill_small : (count : ℕ) (best : List (Option Found)) → AreFillable s nest extra nodes → IsFilled s nest goal extra nodes count best → AreSmall extra best
  fill_small count best are filled = λ q f at. omega (arith, filled.low q f at, sum_by-take-le (charge s nest extra) nodes count, are.room)

  module _ (are : AreFillable s nest extra nodes) (best : List (Option Found)) (i p : ℕ) (here : slice_get nodes i ≡ Some p) (found : Option Found)
      (old : IsFilled s nest goal extra nodes i best) (is : IsBestOf s nest goal p extra best found) where
    abbrev sum_to : ℕ → ℕ
    sum_to n = sum_by (charge s nest extra) (take n nodes)

    sum_next : sum_to (i + 1) ≡ sum_to i + charge s nest extra p
    sum_next = sum_by_more (charge s nest extra) nodes i p (slice_get_within nodes i p here) ∙ ap (λ q. sum_to i + charge s nest extra q) (get_or_from_slice_get nodes i p p here)

    -- what a way goes on with is within the sum so far
    worth_low : (goal : Option ℕ) (b : Bool) (cost z : ℕ) (o : Option ℕ) → reach goal b cost o extra best ≡ Some z → z ≤ cost + sum_to i
    worth_low None b cost z None worth = omega (arith, same_Some cost z worth)
    worth_low (Some h) b cost z None worth = cc
    worth_low g true cost z (Some q) worth = by (leads_to g q) worth
      where
        by : (b : Bool) → (if b then Some cost else None) ≡ Some z → z ≤ cost + sum_to i
        by true worth' = omega (arith, same_Some cost z worth')
        by false worth' = cc
    worth_low g false cost z (Some q) worth = by (found_at best q) refl worth
      where
        by : (o : Option Found) → found_at best q ≡ o → option_map (λ f. cost + (slice_index extra q + f.value)) o ≡ Some z → z ≤ cost + sum_to i
        by None at worth' = cc
        by (Some f) at worth' = omega (arith, same_Some (cost + (slice_index extra q + f.value)) z worth', old.low q f at)

    pub fill_more : p < length best → IsFilled s nest goal extra nodes (i + 1) (set best p found)
    fill_more known = record {
      counted = length-set best p found ∙ old.counted;
      table = table_more s nest goal extra nodes are.down best i p here known found old.table is;
      low = λ q f at. by q f at (cases_eq q p);
    }
      where
        by : (q : ℕ) (f : Found) → found_at (set best p found) q ≡ Some f → (q ≡ p) ⊎ (q ≡ p → ⊥) → slice_index extra q + f.value ≤ sum_to (i + 1)
        by q f at (inl same) =
            let mine : found ≡ Some f = sym (get_or-set_same best p found None known) ∙ ap (found_at (set best p found)) (sym same) ∙ at in
            let way = is.attained f mine in
            let low = worth_low goal (is_marked nest f.place) way.step.cost f.value way.step.target way.worth in
            let dear = dearest_low s.steps f.place p way.step way.at way.source in
            omega (arith, low, dear, sum_next, ap (slice_index extra) same)
        by q f at (inr apart) = omega (arith, old.low q f (sym (get_or-set_other best p q found None apart) ∙ at), sum_next)

-- what is forgotten
pub clear_more : (nodes : List ℕ) (i p : ℕ) (best : List (Option Found)) → slice_get nodes i ≡ Some p → p < length best → StandIn nodes i best → StandIn nodes (i + 1) (set best p None)
clear_more nodes i p best here known old = λ q f at. by q f at (cases_eq q p)
  where
    by : (q : ℕ) (f : Found) → found_at (set best p None) q ≡ Some f → (q ≡ p) ⊎ (q ≡ p → ⊥) → (j : ℕ) × (i + 1 ≤ j) × (slice_get nodes j ≡ Some q)
    by q f at (inl same) = let none : found_at (set best p None) q ≡ None = ap (found_at (set best p None)) same ∙ get_or-set_same best p None None known in cc
    by q f at (inr apart) =
        let there = old q f (sym (get_or-set_other best p q None None apart) ∙ at) in
        (there.0, later there.0 there.1 there.2 (cases_eq there.0 i), there.2)
      where
        later : (j : ℕ) → i ≤ j → slice_get nodes j ≡ Some q → (j ≡ i) ⊎ (j ≡ i → ⊥) → i + 1 ≤ j
        later j low at' (inl same) = absurd (apart (same_Some q p (sym at' ∙ ap (slice_get nodes) same ∙ here)))
        later j low at' (inr other) = omega arith

pub clear_all : (nodes : List ℕ) (best : List (Option Found)) → StandIn nodes (length nodes) best → IsClear best
clear_all nodes best none p = by (found_at best p) refl
  where
    by : (o : Option Found) → found_at best p ≡ o → o ≡ None
    by None at = refl
    by (Some f) at = let there = none p f at in absurd (omega (arith, there.1, slice_get_within nodes there.0 p there.2))
