-- The rounds of one loop more are added to the counts.
use Rattle.std.proofs.Common.{◌≡◌, ℕ, zero, suc, ◌==◌, ◌||◌, ◌+◌, ◌*◌, ◌<◌, ◌≤◌, ◌⊎◌, inl, inr, ℤ, pos, ◌+ℤ◌, ◌*ℤ◌, ◌≤ℤ◌, List, [], ◌∷◌, slice_index, slice_get, Some, Bool, true, false, if◌then◌else◌, refl, sym, ap, subst, ◌∙◌, arith}
use Rattle.std.proofs.Math.IntN.{*ℤ-zero, pos-*ℤ-pos}
use Rattle.std.proofs.Math.Nat.{mul-le-mul, mul-le-mul_left}
use Rattle.std.proofs.lemmas.Bool.{cases_eq, cases_lt}
use Rattle.std.proofs.lemmas.Int.{ints}
use Rattle.std.proofs.lemmas.Option.{same_Some}
use Rattle.wc_base.specs.Sums.{sum_in, chosen}
use Rattle.wc_base.proofs.Products.{monotone, times_one}
use Rattle.wc_base.proofs.SumLemmas.{sum_same}
use Rattle.wc_model.specs.declared.flow_system.System.{System}
use Rattle.wc_model.specs.declared.flow_system.SystemLoop.{SystemLoop}
use Rattle.wc_model.specs.declared.graphs.Nest.{Nest}
use Rattle.wc_model.specs.Flow.Ceiling.{total}
use Rattle.wc_model.specs.Flow.Counts.{entered, into, out_of}
use Rattle.wc_model.specs.Flow.Places.{IsOnce, is_listed}
use Rattle.wc_model.specs.Flow.SystemWalks.{visits}
use Rattle.wc_model.specs.Flow.Systems.{IsSystem, leads_to}
use Rattle.wc_nestsolve.specs.Inner.Adding.{IsAdded, entered_times}
use Rattle.wc_nestsolve.specs.Inner.Flows.{IsFlow, IsRoundOf, linear}
use Rattle.wc_nestsolve.specs.Inner.LastPass.{AreCounts}
use Rattle.wc_nestsolve.specs.Inner.Nested.{IsLoop, IsNested, lies}
use Rattle.wc_nestsolve.specs.Inner.Passes.{bounds_of, factor, numbers, rounds_in}
use Rattle.wc_nestsolve.specs.Inner.Tables.{IsDownward}
use Rattle.wc_nestsolve.specs.Inner.Trails.{IsTrail, tally}
use Rattle.wc_nestsolve.specs.Inner.Weights.{surcharge, weight}
use Rattle.wc_nestsolve.proofs.FlowLemmas.{entered_same, flow_after, flow_skip}
use Rattle.wc_nestsolve.proofs.ListedSums.{chosen_linear, chosen_more}
use Rattle.wc_nestsolve.proofs.RoomLemmas.{sum_total}
use Rattle.wc_nestsolve.proofs.SeenLemmas.{entered_is, leaves_inside, leaves_once, rounds_more, trail_once}
use Rattle.wc_nestsolve.proofs.TrailLemmas.{round_of, trail_linear}
use Rattle.wc_nestsolve.proofs.WeightLemmas.{test_apart, test_same}

-- equal counts are the same flow
pub flow_same : (s : System) (nest : Nest) (v : ℕ → ℤ) (count : ℕ) (value : ℤ) (x y : ℕ → ℤ) → ((i : ℕ) → x i ≡ y i) → IsFlow s nest v count value x → IsFlow s nest v count value y
flow_same s nest v count value x y same is = record {
  some = λ i. omega (arith, ints, same i, is.some i);
  balanced = λ p. omega (arith, ints, out p, in_to p, is.balanced p);
  bounded = λ k l at. omega (arith, ints, listed l.back, come l, is.bounded k l at);
  tight = λ k l at less. sym (ap (λ z. v k *ℤ z) (listed l.back)) ∙ is.tight k l at less ∙ ap (λ z. v k *ℤ z) (come l);
  ahead = λ k l at more. sym (listed l.back) ∙ is.ahead k l at more;
  value_is = sym (sum_same (λ i t. weight s v i t *ℤ x i) (λ i t. weight s v i t *ℤ y i) s.steps (λ i t at. ap (λ z. weight s v i t *ℤ z) (same i))) ∙ is.value_is;
}
  where
    out : (p : ℕ) → out_of s.steps x p ≡ out_of s.steps y p
    out p = sum_same (λ i t. chosen (t.source == p) (x i)) (λ i t. chosen (t.source == p) (y i)) s.steps (λ i t at. ap (chosen (t.source == p)) (same i))

    in_to : (p : ℕ) → into s.steps x p ≡ into s.steps y p
    in_to p = sum_same (λ i t. chosen (leads_to t.target p) (x i)) (λ i t. chosen (leads_to t.target p) (y i)) s.steps (λ i t at. ap (chosen (leads_to t.target p)) (same i))

    listed : (places : List ℕ) → sum_in x places ≡ sum_in y places
    listed places = sum_same (λ _ i. x i) (λ _ i. y i) places (λ k i at. same i)

    come : (l : SystemLoop) → pos l.bound *ℤ entered s.start (pos 1) x l ≡ pos l.bound *ℤ entered s.start (pos 1) y l
    come l = ap (λ z. pos l.bound *ℤ (z +ℤ chosen (l.head == s.start) (pos 1))) (listed l.entry)

-- how often a walk takes a step that it takes once at most
pub visits_listed : (walk : List ℕ) (i : ℕ) → IsOnce walk → visits walk i ≡ chosen (is_listed i walk) (pos 1)
visits_listed [] i once = refl
visits_listed (j ∷ walk) i once = by (visits_listed walk i once.1) (cases_eq i j)
  where
    by : visits walk i ≡ chosen (is_listed i walk) (pos 1) → (i ≡ j) ⊎ (i ≡ j → ⊥) → chosen (j == i) (pos 1) +ℤ visits walk i ≡ chosen ((i == j) || is_listed i walk) (pos 1)
    by rest (inl same) =
        let none : is_listed i walk ≡ false = ap (λ n. is_listed n walk) same ∙ once.0 in
        omega (
          arith,
          ints,
          rest,
          ap (λ b. chosen b (pos 1)) none,
          ap (λ b. chosen b (pos 1)) (test_same j i (sym same)),
          ap (λ b. chosen (b || is_listed i walk) (pos 1)) (test_same i j same),
        )
    by rest (inr apart) = omega (
      arith,
      ints,
      rest,
      ap (λ b. chosen b (pos 1)) (test_apart j i (λ same. apart (sym same))),
      ap (λ b. chosen (b || is_listed i walk) (pos 1)) (test_apart i j apart),
    )

pub entered_int : (l : SystemLoop) (start : ℕ) (x : List ℕ) → pos (entered_times l start x) ≡ entered start (pos 1) (numbers x) l
entered_int l start x = omega (arith, ints, by (l.head == start), sum_total (slice_index x) l.entry, sum_pos l.entry)
  where
    by : (b : Bool) → pos (if b then 1 else 0) ≡ chosen b (pos 1)
    by true = refl
    by false = refl

    sum_pos : (places : List ℕ) → pos (total (slice_index x) places) ≡ sum_in (numbers x) places
    sum_pos [] = refl
    sum_pos (i ∷ places) = omega (arith, ints, sum_pos places)

-- the rounds of the loops before, where one node lies in all that another does
rounds_mono : (nest : Nest) (bounds : List ℕ) (h p n k : ℕ) → ((j : ℕ) → j < k + n → lies nest j h ≡ true → lies nest j p ≡ true) → rounds_in nest bounds k n h ≤ rounds_in nest bounds k n p
rounds_mono nest bounds h p zero k implied = omega arith
rounds_mono nest bounds h p (suc n) k implied = mul-le-mul (by (lies nest k h) refl (lies nest k p) refl) (rounds_mono nest bounds h p n (k + 1) (λ j less. implied j (omega arith)))
  where
    by : (b : Bool) → lies nest k h ≡ b → (c : Bool) → lies nest k p ≡ c → factor nest bounds k h ≤ factor nest bounds k p
    by true at_h true at_p = omega (arith, ap (λ b. if b then slice_index bounds k + 1 else 1) at_h, ap (λ b. if b then slice_index bounds k + 1 else 1) at_p)
    by true at_h false at_p = let yes' : lies nest k p ≡ true = implied k (omega arith) at_h in absurd (never yes' at_p)
      where
        never : lies nest k p ≡ true → lies nest k p ≡ false → ⊥
        never yes' no' = cc
    by false at_h true at_p = omega (arith, ap (λ b. if b then slice_index bounds k + 1 else 1) at_h, ap (λ b. if b then slice_index bounds k + 1 else 1) at_p)
    by false at_h false at_p = omega (arith, ap (λ b. if b then slice_index bounds k + 1 else 1) at_h, ap (λ b. if b then slice_index bounds k + 1 else 1) at_p)

module _ (s : System) (nest : Nest) (is : IsNested s nest) (sound : IsSystem s) (v : List ℕ) (value : ℤ) (k : ℕ) (l : SystemLoop) (here : IsLoop s nest k l) (loops : (m : ℕ) → m < k → (o : SystemLoop) × IsLoop s nest m o)
    (bound : slice_index (bounds_of s) k ≡ l.bound) (head_known : l.head < s.nodes) (x : List ℕ) (old : AreCounts s nest v value k x) where
  abbrev seen_to : ℕ → ℕ → ℕ
  seen_to count p = rounds_in nest (bounds_of s) 0 count p

  seen_next : (p : ℕ) → seen_to (k + 1) p ≡ seen_to k p * (if lies nest k p then l.bound + 1 else 1)
  seen_next p =
      let first : 0 + k ≡ k = omega arith in
      rounds_more nest (bounds_of s) k 0 p ∙ ap (λ j. seen_to k p * factor nest (bounds_of s) j p) first ∙ ap (λ n. seen_to k p * (if lies nest k p then n + 1 else 1)) bound

  seen_grows : (p : ℕ) → seen_to k p ≤ seen_to (k + 1) p
  seen_grows p = omega (arith, seen_next p, by (lies nest k p) (seen_to k p))
    where
      by : (b : Bool) (n : ℕ) → n ≤ n * (if b then l.bound + 1 else 1)
      by true n = omega (arith, spread n l.bound)
        where
          spread : (n b : ℕ) → n * (b + 1) ≡ n * b + n
          spread n b = grind arith
      by false n = omega arith

  -- a loop is entered as often as its head is left
  come_own : entered s.start (pos 1) (numbers x) l ≤ℤ pos (seen_to k l.head)
  come_own = omega (arith, ints, entered_is s nest is sound (numbers v) value k l here (numbers x) old.flow, old.seen l.head head_known)

  come_to : (m : ℕ) (o : SystemLoop) → IsLoop s nest m o → (m < k) ⊎ (k ≤ m) → m ≤ k → entered s.start (pos 1) (numbers x) o ≤ℤ pos (seen_to m o.head)
  come_to m o there (inl less) low = old.come m o there less
  come_to m o there (inr more) low =
      let same : k ≡ m = omega arith in
      let one : l ≡ o = same_Some l o (sym here ∙ ap (slice_get s.loops) same ∙ there) in
      subst (λ j. entered s.start (pos 1) (numbers x) o ≤ℤ pos (seen_to j o.head)) same (subst (λ a. entered s.start (pos 1) (numbers x) a ≤ℤ pos (seen_to k a.head)) one come_own)

  -- a loop that isn't gone round
  pub counts_skip : slice_index v k ≡ 0 → AreCounts s nest v value (k + 1) x
  counts_skip none = record {
    counted = old.counted;
    flow = flow_skip s nest (numbers v) value k (numbers x) old.flow (ap pos none);
    come = λ m o there less. come_to m o there (cases_lt m k) (omega arith);
    seen = λ p known. omega (arith, ints, old.seen p known, seen_grows p);
  }

  -- a loop is entered as often as the loops before it allow
  pub entered_low : entered_times l s.start x ≤ seen_to k l.head
  entered_low = omega (arith, ints, entered_int l s.start x, come_own)

  pub rounds_fit : l.bound * entered_times l s.start x ≤ seen_to (k + 1) l.head
  rounds_fit = omega (
    arith,
    mul-le-mul_left {m = entered_times l s.start x} {n = seen_to k l.head} l.bound entered_low,
    seen_next l.head,
    ap (λ b. seen_to k l.head * (if b then l.bound + 1 else 1)) (is.inside k l here),
    spread (seen_to k l.head) l.bound,
  )
    where
      spread : (n b : ℕ) → n * (b + 1) ≡ b * n + n
      spread n b = grind arith

  -- the rounds
  module _ (extra nodes : List ℕ) (down : IsDownward s nest nodes) (stands : (p : ℕ) → (lies nest k p ≡ true) × (p < s.nodes) → (j : ℕ) × (slice_get nodes j ≡ Some p))
      (charged : (q : ℕ) → pos (slice_index extra q) ≡ surcharge s (numbers v) q) (z : ℕ) (walk : List ℕ) (worth : z ≡ slice_index v k)
      (trail : IsTrail s nest (Some l.head) (λ p. (lies nest k p ≡ true) × (p < s.nodes)) extra l.head walk z) (new : List ℕ) (added : IsAdded walk (l.bound * entered_times l s.start x) x new) where
    abbrev times : ℕ
    times = l.bound * entered_times l s.start x

    once : IsOnce walk
    once = trail_once s nest (Some l.head) (λ p. (lies nest k p ≡ true) × (p < s.nodes)) extra nodes down stands l.head z walk trail

    new_is : (i : ℕ) → numbers x i +ℤ pos times *ℤ visits walk i ≡ numbers new i
    new_is i = omega (arith, ints, ap (λ n. pos times *ℤ n) (visits_listed walk i once), added.each i, by (is_listed i walk))
      where
        by : (b : Bool) → pos times *ℤ chosen b (pos 1) ≡ pos (if b then times else 0)
        by true = times_one (pos times)
        by false = *ℤ-zero (pos times)

    out_new : (p : ℕ) → out_of s.steps (numbers new) p ≡ out_of s.steps (numbers x) p +ℤ pos times *ℤ out_of s.steps (visits walk) p
    out_new p =
        sym (sum_same (λ i t. chosen (t.source == p) (numbers x i +ℤ pos times *ℤ visits walk i)) (λ i t. chosen (t.source == p) (numbers new i)) s.steps (λ i t at. ap (chosen (t.source == p)) (new_is i)))
        ∙ chosen_more (λ i t. t.source == p) s.steps (numbers x) (visits walk) (pos times)

    out_walk : (p : ℕ) → out_of s.steps (visits walk) p ≡ linear (λ i t. chosen (t.source == p) (pos 1)) s.steps (visits walk)
    out_walk p = chosen_linear (λ i t. t.source == p) s.steps (visits walk)

    pub counts_after : AreCounts s nest v value (k + 1) new
    counts_after = record {
      counted = added.counted ∙ old.counted;
      flow = flow_same s nest (numbers v) (k + 1) value (λ i. numbers x i +ℤ pos times *ℤ visits walk i) (numbers new) new_is
          (flow_after s nest (numbers v) value k l here (numbers x) (visits walk) (pos times) old.flow round times_are);
      come = λ m o there less. omega (arith, ints, come_new m o there (omega arith), come_to m o there (cases_lt m k) (omega arith));
      seen = λ p known. seen_at p known (lies nest k p) refl;
    }
      where
        round : IsRoundOf s nest (numbers v) k (visits walk)
        round = round_of s nest is sound (numbers v) k l here (λ p. (lies nest k p ≡ true) × (p < s.nodes)) extra (λ q inside. charged q) (λ q inside. inside.0) z walk (ap pos worth) trail

        times_are : pos times ≡ pos l.bound *ℤ entered s.start (pos 1) (numbers x) l
        times_are = sym (pos-*ℤ-pos l.bound (entered_times l s.start x)) ∙ ap (λ n. pos l.bound *ℤ n) (entered_int l s.start x)

        -- the rounds don't enter the loops before
        come_new : (m : ℕ) (o : SystemLoop) → IsLoop s nest m o → m ≤ k → entered s.start (pos 1) (numbers new) o ≡ entered s.start (pos 1) (numbers x) o
        come_new m o there low =
            sym (ap (λ n. n +ℤ chosen (o.head == s.start) (pos 1)) (sum_same (λ _ i. numbers x i +ℤ pos times *ℤ visits walk i) (λ _ i. numbers new i) o.entry (λ j i at. new_is i)))
            ∙ entered_same s nest (numbers v) value k l here (numbers x) (visits walk) (pos times) old.flow round times_are m o there low

        tally_is : (p : ℕ) → out_of s.steps (visits walk) p ≡ tally (λ i t. chosen (t.source == p) (pos 1)) s.steps walk
        tally_is p = out_walk p ∙ trail_linear s nest (Some l.head) (λ p. (lies nest k p ≡ true) × (p < s.nodes)) extra (λ i t. chosen (t.source == p) (pos 1)) l.head z walk trail

        seen_at : (p : ℕ) → p < s.nodes → (b : Bool) → lies nest k p ≡ b → out_of s.steps (numbers new) p ≤ℤ pos (seen_to (k + 1) p)
        seen_at p known true inside =
            let low = leaves_once s nest (Some l.head) (λ p. (lies nest k p ≡ true) × (p < s.nodes)) extra nodes down stands p l.head z walk trail in
            let most = monotone (pos times) (out_of s.steps (visits walk) p) (pos 1) (omega (arith, ints)) (omega (arith, ints, low, tally_is p)) in
            let rounds = mul-le-mul_left {m = entered_times l s.start x} {n = seen_to k p} l.bound (omega (
              arith,
              entered_low,
              rounds_mono nest (bounds_of s) l.head p k 0 (λ j less in_h. let o = loops j (omega arith) in is.larger j k p o.0 l o.1 here in_h inside),
            )) in
            omega (
              arith,
              ints,
              out_new p,
              most,
              times_one (pos times),
              old.seen p known,
              rounds,
              seen_next p,
              ap (λ b. seen_to k p * (if b then l.bound + 1 else 1)) inside,
              spread (seen_to k p) l.bound,
            )
          where
            spread : (n b : ℕ) → n * (b + 1) ≡ b * n + n
            spread n b = grind arith
        seen_at p known false outside =
            let none = leaves_inside s nest (Some l.head) (λ p. (lies nest k p ≡ true) × (p < s.nodes)) extra nodes down stands p l.head z walk (λ inside. never inside.0) trail in
            omega (arith, ints, out_new p, ap (λ n. pos times *ℤ n) (tally_is p ∙ none), *ℤ-zero (pos times), old.seen p known, seen_grows p)
          where
            never : lies nest k p ≡ true → ⊥
            never yes' = cc
