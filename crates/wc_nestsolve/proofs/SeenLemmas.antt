-- How often a way leaves a node, and how often the counts so far do.
use Rattle.std.proofs.Common.{◌≡◌, ℕ, zero, suc, ◌==◌, ◌&&◌, ◌||◌, ◌+◌, ◌*◌, ◌<◌, ℤ, pos, ◌+ℤ◌, ◌≤ℤ◌, List, [], ◌∷◌, slice_get, Option, Some, Bool, true, false, not, refl, sym, ap, ap₂, subst, ◌∙◌, arith}
use Rattle.std.proofs.lemmas.Option.{same_Some}
use Rattle.std.proofs.lemmas.Int.{ints}
use Rattle.wc_base.specs.Sums.{sum_in, chosen}
use Rattle.wc_base.proofs.SumLemmas.{sum_add, sum_same}
use Rattle.wc_model.specs.declared.flow_system.System.{System}
use Rattle.wc_model.specs.declared.flow_system.SystemLoop.{SystemLoop}
use Rattle.wc_model.specs.declared.flow_system.SystemStep.{SystemStep}
use Rattle.wc_model.specs.declared.graphs.Nest.{Nest}
use Rattle.wc_model.specs.Flow.Counts.{entered, into, out_of}
use Rattle.wc_model.specs.Flow.Places.{IsOnce, is_listed}
use Rattle.wc_model.specs.Flow.Systems.{IsSystem, IsSystemLoop, is_marked, leads_to}
use Rattle.wc_nestsolve.specs.Inner.Flows.{IsFlow}
use Rattle.wc_nestsolve.specs.Inner.Nested.{IsLoop, IsNested, IsStep}
use Rattle.wc_nestsolve.specs.Inner.Passes.{factor, rounds_in}
use Rattle.wc_nestsolve.specs.Inner.Tables.{IsDownward}
use Rattle.wc_nestsolve.specs.Inner.Trails.{IsTrail, ends, goes, given_at, tally}
use Rattle.wc_nestsolve.proofs.ListedSums.{get_all, sum_listed}
use Rattle.wc_nestsolve.proofs.TrailLemmas.{trail_inside}
use Rattle.wc_nestsolve.proofs.WeightLemmas.{same_by, test_apart, test_same}

module _ (s : System) (nest : Nest) (goal : Option ℕ) (Inside : ℕ → Type 0) (extra nodes : List ℕ) (down : IsDownward s nest nodes) (stands : (p : ℕ) → Inside p → (j : ℕ) × (slice_get nodes j ≡ Some p)) where
  -- a way doesn't come to a node that stands later
  leaves_none : (r i j p z : ℕ) (walk : List ℕ) → slice_get nodes i ≡ Some r → slice_get nodes j ≡ Some p → j < i → IsTrail s nest goal Inside extra p walk z → tally (λ i t. chosen (t.source == r) (pos 1)) s.steps walk ≡ pos 0
  leaves_none r i j p z walk at_r at_p less (ends n t at inside to marked) = omega (
    arith,
    ints,
    ap (given_at (λ i t. chosen (t.source == r) (pos 1)) n) at,
    ap (λ b. chosen b (pos 1)) (test_apart t.source r (λ same. absurd (let one = down.once i j r at_r (at_p ∙ ap Some same) in omega arith))),
  )
  leaves_none r i j p z walk at_r at_p less (goes n q y t rest at inside ahead to more) =
      let place = stands q (trail_inside s nest goal Inside extra q y rest more) in
      let low = down.lower n j place.0 q t at ahead to at_p place.1 in
      omega (
        arith,
        ints,
        ap (given_at (λ i t. chosen (t.source == r) (pos 1)) n) at,
        ap (λ b. chosen b (pos 1)) (test_apart t.source r (λ same. absurd (let one = down.once i j r at_r (at_p ∙ ap Some same) in omega arith))),
        leaves_none r i place.0 q y rest at_r place.1 (omega arith) more,
      )

  -- it leaves a node once at most, and none outside
  pub leaves_once : (r p z : ℕ) (walk : List ℕ) → IsTrail s nest goal Inside extra p walk z → tally (λ i t. chosen (t.source == r) (pos 1)) s.steps walk ≤ℤ pos 1
  leaves_once r p z walk (ends n t at inside to marked) = by (t.source == r)
    where
      at_most : (b : Bool) → chosen b (pos 1) ≤ℤ pos 1
      at_most true = omega (arith, ints)
      at_most false = omega (arith, ints)

      by : (b : Bool) → tally (λ i t. chosen (t.source == r) (pos 1)) s.steps (n ∷ []) ≤ℤ pos 1
      by b = omega (arith, ints, ap (given_at (λ i t. chosen (t.source == r) (pos 1)) n) at, at_most (t.source == r))
  leaves_once r p z walk (goes n q y t rest at inside ahead to more) = by (leaves_once r q y rest more) (t.source == r) refl
    where
      by : tally (λ i t. chosen (t.source == r) (pos 1)) s.steps rest ≤ℤ pos 1 → (b : Bool) → (t.source == r) ≡ b → tally (λ i t. chosen (t.source == r) (pos 1)) s.steps (n ∷ rest) ≤ℤ pos 1
      by low true is =
          let here = stands t.source inside in
          let place = stands q (trail_inside s nest goal Inside extra q y rest more) in
          let lower = down.lower n here.0 place.0 q t at ahead to here.1 place.1 in
          let none = leaves_none r here.0 place.0 q y rest (here.1 ∙ ap Some (same_by t.source r is)) place.1 lower more in
          omega (arith, ints, ap (given_at (λ i t. chosen (t.source == r) (pos 1)) n) at, ap (λ c. chosen c (pos 1)) is, none)
      by low false is = omega (arith, ints, ap (given_at (λ i t. chosen (t.source == r) (pos 1)) n) at, ap (λ c. chosen c (pos 1)) is, low)

  pub leaves_inside : (r p z : ℕ) (walk : List ℕ) → (Inside r → ⊥) → IsTrail s nest goal Inside extra p walk z → tally (λ i t. chosen (t.source == r) (pos 1)) s.steps walk ≡ pos 0
  leaves_inside r p z walk out (ends n t at inside to marked) = omega (
    arith,
    ints,
    ap (given_at (λ i t. chosen (t.source == r) (pos 1)) n) at,
    ap (λ b. chosen b (pos 1)) (test_apart t.source r (λ same. out (subst Inside same inside))),
  )
  leaves_inside r p z walk out (goes n q y t rest at inside ahead to more) = omega (
    arith,
    ints,
    ap (given_at (λ i t. chosen (t.source == r) (pos 1)) n) at,
    ap (λ b. chosen b (pos 1)) (test_apart t.source r (λ same. out (subst Inside same inside))),
    leaves_inside r q y rest out more,
  )

  -- it takes each step once at most
  unlisted : (n i j p z : ℕ) (t : SystemStep) (walk : List ℕ) → IsStep s nest n t → slice_get nodes i ≡ Some t.source → slice_get nodes j ≡ Some p → j < i → IsTrail s nest goal Inside extra p walk z → is_listed n walk ≡ false
  unlisted n i j p z t walk at_n at_t at_p less (ends m r at inside to marked) = ap (λ b. b || false) (test_apart n m (λ same. apart same))
    where
      apart : n ≡ m → ⊥
      apart same =
          let one : t ≡ r = same_Some t r (sym at_n ∙ ap (slice_get s.steps) same ∙ at) in
          absurd (let even = down.once i j p (at_t ∙ ap (λ x. Some x.source) one) at_p in omega arith)
  unlisted n i j p z t walk at_n at_t at_p less (goes m q y r rest at inside ahead to more) =
      let place = stands q (trail_inside s nest goal Inside extra q y rest more) in
      let low = down.lower m j place.0 q r at ahead to at_p place.1 in
      ap₂ (λ a b. a || b) (test_apart n m (λ same. apart same)) (unlisted n i place.0 q y t rest at_n at_t place.1 (omega arith) more)
    where
      apart : n ≡ m → ⊥
      apart same =
          let one : t ≡ r = same_Some t r (sym at_n ∙ ap (slice_get s.steps) same ∙ at) in
          absurd (let even = down.once i j p (at_t ∙ ap (λ x. Some x.source) one) at_p in omega arith)

  pub trail_once : (p z : ℕ) (walk : List ℕ) → IsTrail s nest goal Inside extra p walk z → IsOnce walk
  trail_once p z walk (ends n t at inside to marked) = (refl, tt)
  trail_once p z walk (goes n q y t rest at inside ahead to more) =
      let here = stands t.source inside in
      let place = stands q (trail_inside s nest goal Inside extra q y rest more) in
      let lower = down.lower n here.0 place.0 q t at ahead to here.1 place.1 in
      (unlisted n here.0 place.0 q y t rest at here.1 place.1 lower more, trail_once q y rest more)

-- The counts so far.
module _ (s : System) (nest : Nest) (is : IsNested s nest) (sound : IsSystem s) (v : ℕ → ℤ) (value : ℤ) (k : ℕ) (l : SystemLoop) (here : IsLoop s nest k l) (x : ℕ → ℤ) (flow : IsFlow s nest v k value x) where
  -- what comes into a head
  into_head : into s.steps x l.head ≡ sum_in x l.back +ℤ sum_in x l.entry
  into_head =
      let placed = get_all (IsSystemLoop s) s.loops k l here sound.loops in
      sum_same (λ i t. chosen (leads_to t.target l.head) (x i)) (λ i t. chosen (is_listed i l.back) (x i) +ℤ chosen (is_listed i l.entry) (x i)) s.steps
      (λ i t at. by (leads_to t.target l.head) (is_marked nest i) (x i) ∙ sym (ap₂ (λ b e. chosen b (x i) +ℤ chosen e (x i)) (is.back i k t l at here) (is.entry i k t l at here)))
      ∙ sum_add (λ i t. chosen (is_listed i l.back) (x i)) (λ i t. chosen (is_listed i l.entry) (x i)) s.steps
      ∙ ap₂ (λ a b. a +ℤ b) (sum_listed x s.steps l.back placed.back.0 placed.back.1) (sum_listed x s.steps l.entry placed.entry.0 placed.entry.1)
    where
      by : (a m : Bool) (z : ℤ) → chosen a z ≡ chosen (a && m) z +ℤ chosen (a && not m) z
      by true true z = omega (arith, ints)
      by true false z = omega (arith, ints)
      by false m z = refl

  turned : chosen (s.start == l.head) (pos 1) ≡ chosen (l.head == s.start) (pos 1)
  turned = by (s.start == l.head) refl
    where
      by : (b : Bool) → (s.start == l.head) ≡ b → chosen b (pos 1) ≡ chosen (l.head == s.start) (pos 1)
      by true same = sym (ap (λ c. chosen c (pos 1)) (test_same l.head s.start (sym (same_by s.start l.head same))))
      by false apart = sym (ap (λ c. chosen c (pos 1)) (test_apart l.head s.start (λ same. differ (test_same s.start l.head (sym same)))))
        where
          differ : (s.start == l.head) ≡ true → ⊥
          differ yes' = cc

  -- a loop is entered as often as its head is left
  pub entered_is : entered s.start (pos 1) x l ≡ out_of s.steps x l.head
  entered_is = omega (arith, ints, into_head, flow.balanced l.head, flow.ahead k l here (omega arith), turned)

-- the rounds of the loops before the next one
pub rounds_more : (nest : Nest) (bounds : List ℕ) (n k q : ℕ) → rounds_in nest bounds k (n + 1) q ≡ rounds_in nest bounds k n q * factor nest bounds (k + n) q
rounds_more nest bounds zero k q =
    let first : 0 + 1 ≡ suc 0 = omega arith in
    let same : k + 0 ≡ k = omega arith in
    ap (λ m. rounds_in nest bounds k m q) first ∙ turn (factor nest bounds k q) ∙ sym (ap (λ j. 1 * factor nest bounds j q) same)
  where
    turn : (a : ℕ) → a * 1 ≡ 1 * a
    turn a = grind arith
rounds_more nest bounds (suc n) k q =
    let first : suc n + 1 ≡ suc (n + 1) = omega arith in
    let same : k + 1 + n ≡ k + suc n = omega arith in
    ap (λ m. rounds_in nest bounds k m q) first ∙ ap (λ m. factor nest bounds k q * m) (rounds_more nest bounds n (k + 1) q ∙ ap (λ j. rounds_in nest bounds (k + 1) n q * factor nest bounds j q) same)
    ∙ turn (factor nest bounds k q) (rounds_in nest bounds (k + 1) n q) (factor nest bounds (k + suc n) q)
  where
    turn : (a b c : ℕ) → a * (b * c) ≡ a * b * c
    turn a b c = grind arith
