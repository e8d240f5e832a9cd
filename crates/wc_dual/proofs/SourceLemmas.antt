-- Sums over the steps of a node.
use Rattle.std.proofs.Common.{◌≡◌, ℕ, zero, suc, ◌==◌, ◌+◌, ◌-◌, ◌<◌, ◌≤◌, nat_lt, ℤ, pos, ◌+ℤ◌, ◌*ℤ◌, List, [], ◌∷◌, length, take, get_or, slice_get, Option, Some, None, Bool, true, false, refl, sym, ap, ◌⊎◌, subst, inl, inr, ⊎_elim, ◌∙◌, arith}
use Rattle.std.proofs.lemmas.Bool.{cases_lt}
use Rattle.std.proofs.lemmas.Bool.Decides.{nat_tests}
use Rattle.std.proofs.lemmas.Int.{ints}
use Rattle.std.proofs.lemmas.Option.{get_or_from_slice_get, slice_get-get_or}
use Rattle.wc_base.specs.Arithmetic.{InRange}
use Rattle.wc_base.specs.Sums.{sum_placed, chosen}
use Rattle.wc_base.proofs.SumLemmas.{sum_zero}
use Rattle.wc_model.specs.declared.flow_system.SystemStep.{SystemStep}
use Rattle.wc_model.specs.Flow.Counts.{out_of}
use Rattle.wc_model.specs.Flow.Places.{number_at}
use Rattle.wc_model.specs.Flow.SystemWalks.{cost_at}
use Rattle.wc_dual.specs.Wide.{IsOut}
use Rattle.wc_dual.specs.Inner.Blocks.{Adds, CannotPut}
use Rattle.wc_dual.specs.Inner.Lines.{CannotPay, pay}
use Rattle.wc_dual.specs.Inner.Sources.{HasAll, leaving}
use Rattle.wc_dual.specs.declared.sources.Places.{Places}
use Rattle.wc_dual.proofs.FlowLemmas.{get_take}
use Rattle.wc_dual.proofs.PassLemmas.{sum_rest}

-- steps elsewhere don't leave the node
elsewhere : (steps : List SystemStep) (node : ℕ) (places : Places) → HasAll steps node places → (i : ℕ) (t : SystemStep) → slice_get steps i ≡ Some t → (i < places.first) ⊎ (places.end ≤ i) → (t.source == node) ≡ false
elsewhere steps node places all i t at outside = by (t.source == node) refl
  where
    same : (a b : ℕ) → (a == b) ≡ true → a ≡ b
    same a b is = grind (arith, nat_tests)

    by : (b : Bool) → (t.source == node) ≡ b → b ≡ false
    by true is =
        let among : (places.first ≤ i) × (i < places.end) = all i t at (same t.source node is) in
        ⊎_elim (λ before. absurd (omega (arith, before, among))) (λ after. absurd (omega (arith, after, among))) outside
    by false is = refl

module _ (steps : List SystemStep) (x : ℕ → ℤ) (node : ℕ) (places : Places) (all : HasAll steps node places) where
  pub visits_start : pos 0 ≡ sum_placed (leaving x node) (take places.first steps)
  visits_start = sym (sum_zero (leaving x node) (take places.first steps) (λ i t at.
      ap (λ b. chosen b (x i)) (elsewhere steps node places all i t (get_take steps places.first i t at) (inl (within i t at)))))
    where
      below : {X : Type 0} (ys : List X) (n i : ℕ) (y : X) → slice_get (take n ys) i ≡ Some y → i < n
      below [] zero i y at = cc
      below [] (suc n) i y at = cc
      below (z ∷ ys) zero i y at = cc
      below (z ∷ ys) (suc n) zero y at = omega arith
      below (z ∷ ys) (suc n) (suc i) y at = omega (arith, below ys n i y at)

      within : (i : ℕ) (t : SystemStep) → slice_get (take places.first steps) i ≡ Some t → i < places.first
      within i t at = below steps places.first i t at

  pub visits_end : (n : ℕ) (sum : ℤ) → places.end ≤ n → sum ≡ sum_placed (leaving x node) (take n steps) → sum ≡ out_of steps x node
  visits_end n sum past is = is ∙ sum_rest (leaving x node) steps n (λ i t at above. ap (λ b. chosen b (x i)) (elsewhere steps node places all i t at (inr (omega (arith, past, above)))))

-- A factor, paid for the steps of its node one after the other.
module _ (steps : List SystemStep) (f : ℕ × ℤ) (price : ℤ) (first : ℕ) (places : Places) (all : HasAll steps f.0 places) where
  abbrev due : ℕ → ℤ
  due i = cost_at (pay f price) (slice_get steps i)

  -- elsewhere nothing is due
  undue : (i : ℕ) → (i < places.first) ⊎ (places.end ≤ i) → due i ≡ pos 0
  undue i outside = by (slice_get steps i) refl
    where
      by : (o : Option SystemStep) → slice_get steps i ≡ o → cost_at (pay f price) o ≡ pos 0
      by None at = refl
      by (Some t) at = ap (λ b. chosen b (f.1 *ℤ price)) (elsewhere steps f.0 places all i t at outside)

  abbrev so_far : ℕ → ℕ → ℤ
  so_far n i = chosen (nat_lt i n) (due i)

  pub pay_start : (old : List ℤ) → Adds first (so_far places.first) old old
  pay_start old = (refl, λ k below. omega (arith, ints, by (first + k) (nat_lt (first + k) places.first) refl))
    where
      by : (i : ℕ) (b : Bool) → nat_lt i places.first ≡ b → chosen b (due i) ≡ pos 0
      by i true is = undue i (inl (let less : i < places.first = grind (arith, nat_tests) in less))
      by i false is = refl

  next_part : (n i : ℕ) (t : SystemStep) → slice_get steps n ≡ Some t → so_far (n + 1) i ≡ so_far n i +ℤ chosen (n == i) (pay f price t)
  next_part n i t at = by (nat_lt i n) (n == i) (nat_lt i (n + 1)) refl refl refl
    where
      by : (a b c : Bool) → nat_lt i n ≡ a → (n == i) ≡ b → nat_lt i (n + 1) ≡ c → chosen c (due i) ≡ chosen a (due i) +ℤ chosen b (pay f price t)
      by true true c before same next = let less : i < n = grind (arith, nat_tests) in let is : n ≡ i = grind (arith, nat_tests) in absurd (omega (arith, less, is))
      by true false true before same next = omega (arith, ints)
      by true false false before same next = let less : i < n = grind (arith, nat_tests) in let not : n + 1 ≤ i = grind (arith, nat_tests) in absurd (omega (arith, less, not))
      by false true true before same next = let is : n ≡ i = grind (arith, nat_tests) in omega (arith, ints, ap due (sym is), ap (cost_at (pay f price)) at)
      by false true false before same next = let is : n ≡ i = grind (arith, nat_tests) in let not : n + 1 ≤ i = grind (arith, nat_tests) in absurd (omega (arith, is, not))
      by false false true before same next = let le : n ≤ i = grind (arith, nat_tests) in let ne : n ≡ i → ⊥ = grind (arith, nat_tests) in let less : i < n + 1 = grind (arith, nat_tests) in absurd (ne (omega (arith, le, less)))
      by false false false before same next = omega (arith, ints)

  pub pay_next : (n : ℕ) (t : SystemStep) (old mid new : List ℤ) → slice_get steps n ≡ Some t → Adds first (so_far n) old mid → Adds first (λ i. chosen (n == i) (pay f price t)) mid new → Adds first (so_far (n + 1)) old new
  pay_next n t old mid new at before adds =
      (adds.0 ∙ before.0, λ k below. omega (arith, ints, adds.1 k (omega (arith, below, before.0)), before.1 k below, next_part n (first + k) t at))

  pub pay_end : (n : ℕ) (old new : List ℤ) → places.end ≤ n → Adds first (so_far n) old new → Adds first due old new
  pay_end n old new past before = (before.0, λ k below. before.1 k below ∙ ap (λ z. number_at old k +ℤ z) (whole (first + k) (nat_lt (first + k) n) refl))
    where
      whole : (i : ℕ) (b : Bool) → nat_lt i n ≡ b → chosen b (due i) ≡ due i
      whole i true is = refl
      whole i false is = sym (undue i (inr (let above : n ≤ i = grind (arith, nat_tests) in omega (arith, above, past))))

  pub pay_out : (n : ℕ) (t : SystemStep) (old mid : List ℤ) → slice_get steps n ≡ Some t → Adds first (so_far n) old mid → (t.source ≡ f.0) × (IsOut (f.1 *ℤ price) ⊎ CannotPut first n (f.1 *ℤ price) mid) → CannotPay steps f price first old
  pay_out n t old mid at before cannot = (n, t, at, cannot.0, ⊎_elim (λ out. inl out) (λ put. inr (put.0, omega (arith, put.1, before.0), λ fits. put.2 (subst (λ z. InRange z) (same put.0 (omega (arith, put.1, before.0))) fits))) cannot.1)
    where
      untouched : (i : ℕ) → i ≡ n → chosen (nat_lt i n) (due i) ≡ pos 0
      untouched i is = ap (λ b. chosen b (due i)) (let not : nat_lt i n ≡ false = grind (arith, nat_tests) in not)

      same : first ≤ n → n - first < length old → number_at old (n - first) +ℤ f.1 *ℤ price ≡ number_at mid (n - first) +ℤ f.1 *ℤ price
      same from below = omega (arith, ints, before.1 (n - first) below, untouched (first + (n - first)) (omega (arith, from)))

-- One step more stands in order.
pub sorted_more : (steps : List SystemStep) (place : ℕ) (none : SystemStep) → 1 ≤ place → place < length steps
    → ((i j : ℕ) (d : SystemStep) → i ≤ j → j < place → (get_or steps i d).source ≤ (get_or steps j d).source) → (get_or steps (place - 1) none).source ≤ (get_or steps place none).source
    → (i j : ℕ) (d : SystemStep) → i ≤ j → j < place + 1 → (get_or steps i d).source ≤ (get_or steps j d).source
sorted_more steps place none some within before next i j d le below = ⊎_elim (λ less. before i j d le less) (λ last. at (let is : j ≡ place = omega (arith, last, below) in is)) (cases_lt j place)
  where
    same : (k : ℕ) → k < length steps → get_or steps k d ≡ get_or steps k none
    same k near = get_or_from_slice_get steps k (get_or steps k none) d (slice_get-get_or steps k none near)

    last_two : (get_or steps (place - 1) d).source ≤ (get_or steps place d).source
    last_two = omega (arith, next, ap (λ (s : SystemStep). s.source) (same (place - 1) (omega (arith, within))), ap (λ (s : SystemStep). s.source) (same place within))

    upto : i ≤ place → (get_or steps i d).source ≤ (get_or steps place d).source
    upto low = ⊎_elim (λ less. omega (arith, last_two, before i (place - 1) d (omega (arith, less)) (omega (arith, some))))
        (λ high. let is : i ≡ place = omega (arith, low, high) in subst (λ n. (get_or steps n d).source ≤ (get_or steps place d).source) (sym is) (omega arith)) (cases_lt i place)

    at : j ≡ place → (get_or steps i d).source ≤ (get_or steps j d).source
    at is = subst (λ n. (get_or steps i d).source ≤ (get_or steps n d).source) (sym is) (upto (omega (arith, le, is)))
