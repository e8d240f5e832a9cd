-- The steps of a walk are feasible counts.
use Rattle.std.proofs.Common.{◌≡◌, ℕ, ◌==◌, ◌≤◌, ◌+◌, ◌*◌, ℤ, pos, ◌+ℤ◌, ◌-ℤ◌, ◌*ℤ◌, ◌≤ℤ◌, List, [], ◌∷◌, length, get_or, slice_get, Option, Some, None, Bool, true, false, if◌then◌else◌, refl, sym, ap, ap₂, subst, ◌∙◌, arith}
use Rattle.std.proofs.Math.IntN.{*ℤ-zero, zero-*ℤ, pos-*ℤ-pos}
use Rattle.std.proofs.lemmas.Int.{ints}
use Rattle.std.proofs.lemmas.Option.{slice_get-get_or}
use Rattle.std.specs.Prelude.{All}
use Rattle.wc_base.specs.Sums.{sum_placed, sum_in, chosen}
use Rattle.wc_base.proofs.Products.{spread_left, times_one, one_times}
use Rattle.wc_base.proofs.SumLemmas.{sum_same, sum_zero, sum_add, sum_pick}
use Rattle.wc_model.specs.declared.flow_system.SystemLimit.{SystemLimit}
use Rattle.wc_model.specs.declared.flow_system.SystemLoop.{SystemLoop}
use Rattle.wc_model.specs.declared.flow_system.SystemStep.{SystemStep}
use Rattle.wc_model.specs.Flow.Counts.{IsBounded, IsLimited, out_of, value_of}
use Rattle.wc_model.specs.Flow.Places.{is_listed, IsOnce}
use Rattle.wc_model.specs.Flow.SystemWalks.{IsPlaceWalk, visits, passes, is_from, leaves, MeetsLoop, MeetsLimit, cost_at, walk_value}
use Rattle.wc_model.specs.Flow.Systems.{ArePlaces, leads_to}
use Rattle.wc_dual.specs.Laws.{WalksAreFeasible}
use Rattle.wc_dual.proofs.DualityLemmas.{chosen_apart, get_all, same_number, times_chosen}

visits_some : (walk : List ℕ) (i : ℕ) → pos 0 ≤ℤ visits walk i
visits_some [] i = omega (arith, ints)
visits_some (j ∷ walk) i = by (j == i) (visits_some walk i)
  where
    by : (b : Bool) → pos 0 ≤ℤ visits walk i → pos 0 ≤ℤ (chosen b (pos 1) +ℤ visits walk i)
    by true some = omega (arith, ints)
    by false some = omega (arith, ints)

-- A sum over the steps, weighted by the visits, is one over the walk.
visits_value : (cost : SystemStep → ℤ) (steps : List SystemStep) (at end : Option ℕ) (walk : List ℕ) → IsPlaceWalk steps at walk end
    → value_of cost steps (visits walk) ≡ walk_value cost steps walk
visits_value cost steps at end [] is = sum_zero (λ i t. cost t *ℤ pos 0) steps (λ i t h. *ℤ-zero (cost t))
visits_value cost steps at end (j ∷ walk) is =
    let step : SystemStep = is.0 in
    sum_same (λ i t. cost t *ℤ (chosen (j == i) (pos 1) +ℤ visits walk i)) (λ i t. chosen (j == i) (cost t) +ℤ cost t *ℤ visits walk i) steps
    (λ i t h. spread_left (cost t) (chosen (j == i) (pos 1)) (visits walk i)
    ∙ ap (λ z. z +ℤ cost t *ℤ visits walk i) (times_chosen (j == i) (cost t) (pos 1) ∙ ap (chosen (j == i)) (times_one (cost t))))
    ∙ sum_add (λ i t. chosen (j == i) (cost t)) (λ i t. cost t *ℤ visits walk i) steps
    ∙ ap₂ (λ a b. a +ℤ b) (sum_pick (λ i t. cost t) steps j step is.1 ∙ sym (ap (cost_at cost) is.1)) (visits_value cost steps step.target end walk is.3)

-- What leaves a node and what comes into it are such sums.
one_if : (key : SystemStep → Bool) → SystemStep → ℤ
one_if key t = chosen (key t) (pos 1)

counted : (key : SystemStep → Bool) (steps : List SystemStep) (x : ℕ → ℤ) → sum_placed (λ i t. chosen (key t) (x i)) steps ≡ value_of (one_if key) steps x
unfolding one_if
counted key steps x = sum_same (λ i t. chosen (key t) (x i)) (λ i t. one_if key t *ℤ x i) steps (λ i t h. by (key t) (x i))
  where
    by : (b : Bool) (z : ℤ) → chosen b z ≡ chosen b (pos 1) *ℤ z
    by true z = sym (one_times z)
    by false z = sym (zero-*ℤ z)

walk_balance : (steps : List SystemStep) (p : ℕ) (at end : Option ℕ) (walk : List ℕ) → IsPlaceWalk steps at walk end
    → walk_value (one_if (λ t. t.source == p)) steps walk -ℤ walk_value (one_if (λ t. leads_to t.target p)) steps walk ≡ chosen (leads_to at p) (pos 1) -ℤ chosen (leads_to end p) (pos 1)
unfolding one_if
walk_balance steps p at end [] is = omega (arith, ints, ap (λ o. chosen (leads_to o p) (pos 1)) is)
walk_balance steps p at end (i ∷ walk) is =
    let step : SystemStep = is.0 in
    omega (
      arith,
      ints,
      ap (cost_at (one_if (λ t. t.source == p))) is.1,
      ap (cost_at (one_if (λ t. leads_to t.target p))) is.1,
      ap (λ o. chosen (leads_to o p) (pos 1)) is.2,
      walk_balance steps p step.target end walk is.3,
    )

-- The visits of a node are the steps that leave it.
walk_leaves : (steps : List SystemStep) (p : ℕ) (walk : List ℕ) → walk_value (one_if (λ t. t.source == p)) steps walk ≡ pos (leaves steps p walk)
unfolding one_if
walk_leaves steps p [] = refl
walk_leaves steps p (i ∷ walk) = omega (arith, ints, by (slice_get steps i), walk_leaves steps p walk)
  where
    one : (b : Bool) → chosen b (pos 1) ≡ pos (if b then 1 else 0)
    one true = refl
    one false = refl

    by : (o : Option SystemStep) → cost_at (one_if (λ t. t.source == p)) o ≡ pos (if is_from p o then 1 else 0)
    by None = refl
    by (Some t) = one (t.source == p)

-- The visits of the steps in a list of places, each of which stands there once.
visits_once : (j : ℕ) (places : List ℕ) → IsOnce places → sum_in (λ i. chosen (j == i) (pos 1)) places ≡ chosen (is_listed j places) (pos 1)
visits_once j [] once = refl
visits_once j (n ∷ ns) once =
    omega (arith, ints, visits_once j ns once.1, chosen_apart (j == n) (is_listed j ns) (pos 1) (λ is. subst (λ k. is_listed k ns ≡ false) (sym (same_number n j is)) once.0))

visits_listed : (places walk : List ℕ) → IsOnce places → sum_in (visits walk) places ≡ pos (passes places walk)
visits_listed places [] once = sum_zero (λ _ i. pos 0) places (λ k i h. refl)
visits_listed places (j ∷ walk) once =
    omega (arith, ints, sum_add (λ _ i. chosen (j == i) (pos 1)) (λ _ i. visits walk i) places, visits_once j places once, one (is_listed j places), visits_listed places walk once)
  where
    one : (b : Bool) → chosen b (pos 1) ≡ pos (if b then 1 else 0)
    one true = refl
    one false = refl

-- The rows.
loop_met : (start : ℕ) (walk : List ℕ) (l : SystemLoop) → IsOnce l.back → IsOnce l.entry → MeetsLoop start walk l → IsBounded start (pos 1) (visits walk) l
loop_met start walk l back entry meets = by (l.head == start) meets
  where
    by : (b : Bool) → passes l.back walk ≤ l.bound * (passes l.entry walk + (if b then 1 else 0)) → sum_in (visits walk) l.back ≤ℤ (pos l.bound *ℤ (sum_in (visits walk) l.entry +ℤ chosen b (pos 1)))
    by true most = omega (
      arith,
      ints,
      visits_listed l.back walk back,
      pos-*ℤ-pos l.bound (passes l.entry walk + 1),
      most,
      ap (λ z. pos l.bound *ℤ (z +ℤ pos 1)) (visits_listed l.entry walk entry),
    )
    by false most = omega (
      arith,
      ints,
      visits_listed l.back walk back,
      pos-*ℤ-pos l.bound (passes l.entry walk + 0),
      most,
      ap (λ z. pos l.bound *ℤ (z +ℤ pos 0)) (visits_listed l.entry walk entry),
    )

out_visits : (steps : List SystemStep) (at end : Option ℕ) (walk : List ℕ) (p : ℕ) → IsPlaceWalk steps at walk end → out_of steps (visits walk) p ≡ pos (leaves steps p walk)
out_visits steps at end walk p is =
    counted (λ t. t.source == p) steps (visits walk) ∙ visits_value (one_if (λ t. t.source == p)) steps at end walk is ∙ walk_leaves steps p walk

limit_met : (steps : List SystemStep) (at end : Option ℕ) (walk : List ℕ) (l : SystemLimit) → IsPlaceWalk steps at walk end → MeetsLimit steps walk l → IsLimited steps (pos 1) (visits walk) l
limit_met steps at end walk l is meets =
    let same = sum_same (λ _ f. f.1 *ℤ out_of steps (visits walk) f.0) (λ _ f. f.1 *ℤ pos (leaves steps f.0 walk)) l.factors
    (λ k f h. ap (λ z. f.1 *ℤ z) (out_visits steps at end walk f.0 is)) in
    omega (arith, ints, same, times_one l.constant, meets)

-- each element has what its place gives it
all_from : {X : Type 0} (P : X → Type 0) (xs : List X) → ((k : ℕ) (x : X) → slice_get xs k ≡ Some x → P x) → All P xs
all_from P xs each k d within = each k (get_or xs k d) (slice_get-get_or xs k d within)

pub walks_are_feasible : WalksAreFeasible
walks_are_feasible s walk is walks meets = (
  record {
    whole = omega (arith, ints);
    some = λ i within. visits_some walk i;
    balanced = λ p within. omega (
      arith,
      ints,
      counted (λ t. t.source == p) s.steps (visits walk),
      counted (λ t. leads_to t.target p) s.steps (visits walk),
      visits_value (one_if (λ t. t.source == p)) s.steps (Some s.start) None walk walks,
      visits_value (one_if (λ t. leads_to t.target p)) s.steps (Some s.start) None walk walks,
      walk_balance s.steps p (Some s.start) None walk walks,
    );
    bounded = all_from (IsBounded s.start (pos 1) (visits walk)) s.loops (λ k l at.
        let backs : ArePlaces (length s.steps) l.back = get_all (λ o. ArePlaces (length s.steps) o.back) s.loops k l at is.backs in
        let entries : ArePlaces (length s.steps) l.entry = get_all (λ o. ArePlaces (length s.steps) o.entry) s.loops k l at is.entries in
        loop_met s.start walk l backs.1 entries.1 (get_all (MeetsLoop s.start walk) s.loops k l at meets.loops));
    limited = all_from (IsLimited s.steps (pos 1) (visits walk)) s.limits (λ k l at.
        limit_met s.steps (Some s.start) None walk l walks (get_all (MeetsLimit s.steps walk) s.limits k l at meets.limits));
  },
  λ cost. visits_value cost s.steps (Some s.start) None walk walks,
)
