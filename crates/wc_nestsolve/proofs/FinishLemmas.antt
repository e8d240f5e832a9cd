-- The last potentials and counts are a solution, and fit its numbers.
use Rattle.std.proofs.Common.{◌≡◌, ℕ, zero, suc, ◌==◌, ◌+◌, ◌*◌, ◌<◌, ◌≤◌, ◌^◌, ◌⊎◌, inl, inr, ℤ, pos, neg_ℤ, ◌+ℤ◌, ◌*ℤ◌, ◌≤ℤ◌, List, [], ◌∷◌, map, length, slice_index, slice_get, get_or, Option, Some, None, Bool, true, false, refl, sym, ap, ap₂, subst, ◌∙◌, arith, lit<}
use Rattle.std.proofs.Math.IntN.{*ℤ-zero}
use Rattle.std.proofs.Math.ListN.{get_or-eq_default}
use Rattle.std.proofs.lemmas.Bool.{cases_lt}
use Rattle.std.proofs.lemmas.Int.{ints}
use Rattle.std.proofs.lemmas.List.{length-map}
use Rattle.std.proofs.lemmas.Option.{get_or_from_slice_get, slice_get-get_or, slice_get_within}
use Rattle.std.specs.Prelude.{All}
use Rattle.wc_base.specs.Sums.{sum_placed, chosen}
use Rattle.wc_base.proofs.Products.{monotone}
use Rattle.wc_base.proofs.SumLemmas.{sum_same}
use Rattle.wc_model.specs.declared.flow_system.Solution.{Solution}
use Rattle.wc_model.specs.declared.flow_system.System.{System}
use Rattle.wc_model.specs.declared.flow_system.SystemLoop.{SystemLoop}
use Rattle.wc_model.specs.declared.graphs.Nest.{Nest}
use Rattle.wc_model.specs.Flow.Certificates.{SolutionHolds}
use Rattle.wc_model.specs.Flow.Counts.{entered}
use Rattle.wc_model.specs.Flow.Places.{number_at}
use Rattle.wc_model.specs.Flow.Systems.{IsSystemLoop}
use Rattle.wc_model.specs.Workspace.Phases.{IsWhole}
use Rattle.wc_model.proofs.Places.{get_within}
use Rattle.wc_dual.specs.Wide.{IsWideSolution}
use Rattle.wc_nestsolve.specs.declared.ways.Ways.{Ways}
use Rattle.wc_nestsolve.specs.Inner.LastPass.{IsTurn}
use Rattle.wc_nestsolve.specs.Inner.Made.{AreNarrow, IsMakable, IsMade}
use Rattle.wc_nestsolve.specs.Inner.Passes.{AreRounds, bounds_of, numbers, rounds_in}
use Rattle.wc_nestsolve.specs.Inner.Raising.{potential_at, settled}
use Rattle.wc_nestsolve.specs.Inner.Tables.{charge}
use Rattle.wc_nestsolve.specs.Inner.Ways.{AreWays}
use Rattle.wc_nestsolve.proofs.CountLemmas.{flow_same}
use Rattle.wc_nestsolve.proofs.EndLemmas.{solution_holds}
use Rattle.wc_nestsolve.proofs.ListedSums.{get_all}
use Rattle.wc_nestsolve.proofs.PassLemmas.{whole_room}
use Rattle.wc_nestsolve.proofs.NarrowLemmas.{never_wide}
use Rattle.wc_nestsolve.proofs.SmallLemmas.{allowed_small, cost_small, count_small, part_of, prefix_small, term_low}
use Rattle.wc_nestsolve.proofs.WeightLemmas.{same_by, test_apart, test_same}

mapped_at : (xs : List ℕ) (i : ℕ) → number_at (map pos xs) i ≡ numbers xs i
mapped_at [] i = refl
mapped_at (x ∷ xs) zero = refl
mapped_at (x ∷ xs) (suc i) = mapped_at xs i

settled_at : (us : List (Option ℤ)) (p : ℕ) → number_at (map settled us) p ≡ settled (potential_at us p)
settled_at [] p = refl
settled_at (u ∷ us) zero = refl
settled_at (u ∷ us) (suc p) = settled_at us p

module _ (nest : Nest) (s : System) (w : Ways) (ways : AreWays s nest w) (extra v : List ℕ) (rounds : AreRounds s nest w.order.items w.classes.items 0 extra v) (value : ℤ) (u : List (Option ℤ)) (x : List ℕ)
    (turned : IsTurn s nest v value (length s.loops) u x) where
  big : 2 ^ 100 < 2 ^ 127
  big = lit< tt

  pub counts_small : All (λ n. n < 2 ^ 127) x
  counts_small i d within =
      let value_is : get_or x i d ≡ get_or x i 0 = get_or_from_slice_get x i (get_or x i 0) d (slice_get-get_or x i 0 within) in
      omega (arith, count_small nest s ways.solvable w.order.items ways.order v value (length s.loops) x turned.counts (omega arith) i within, big, value_is)

  pub rounds_small : length v ≡ length s.loops → All (λ n. n < 2 ^ 127) v
  rounds_small counted i d within =
      let own = get_within s.loops i (omega (arith, within, counted)) in
      let done = rounds.done i own.0 own.1 (omega arith) in
      let value_is : get_or v i d ≡ get_or v i 0 = get_or_from_slice_get v i (get_or v i 0) d (slice_get-get_or v i 0 within) in
      omega (arith, done.small, big, value_is)

  -- the surcharge of the start is what its loop adds to the value
  start_part : pos (slice_index extra s.start) ≡ sum_placed (λ k l. chosen (l.head == s.start) (pos l.bound *ℤ numbers v k)) s.loops
  start_part = rounds.charged s.start ∙ sum_same (λ k l. chosen (s.start == l.head) (pos l.bound *ℤ numbers v k)) (λ k l. chosen (l.head == s.start) (pos l.bound *ℤ numbers v k)) s.loops
      (λ k l at. ap (λ b. chosen b (pos l.bound *ℤ numbers v k)) (turn s.start l.head))
    where
      turn : (a b : ℕ) → (a == b) ≡ (b == a)
      turn a b = by (a == b) refl
        where
          by : (c : Bool) → (a == b) ≡ c → c ≡ (b == a)
          by true same = sym (test_same b a (sym (same_by a b same)))
          by false apart = sym (test_apart b a (λ same. differ (test_same a b (sym same))))
            where
              differ : (a == b) ≡ true → ⊥
              differ yes' = cc

  extra_small : (q : ℕ) → q < s.nodes → slice_index extra q < 2 ^ 100
  extra_small q known =
      let place = ways.order.all q known in
      omega (arith, part_of (charge s nest extra) w.order.items place.0 q place.1, whole_room nest s w ways extra v rounds)

  few : (length s.loops + 1) * 2 ^ 100 ≤ 2 ^ 120
  few = omega (arith, ways.solvable.few, ways.solvable.loops_few)

  potential_near : (p : ℕ) → (neg_ℤ (pos (2 ^ 120)) ≤ℤ number_at (map settled u) p) × (number_at (map settled u) p ≤ℤ pos (2 ^ 120))
  potential_near p = by (potential_at u p) refl
    where
      by : (o : Option ℤ) → potential_at u p ≡ o → (neg_ℤ (pos (2 ^ 120)) ≤ℤ number_at (map settled u) p) × (number_at (map settled u) p ≤ℤ pos (2 ^ 120))
      by None at = let zero_at = settled_at u p ∙ ap settled at in (omega (arith, ints, zero_at), omega (arith, ints, zero_at))
      by (Some z) at = let is = settled_at u p ∙ ap settled at in (omega (arith, ints, is, turned.potentials.low p z at, few), omega (arith, ints, is, turned.potentials.high p z at, few))

  pub makable : length v ≡ length s.loops → length extra ≡ s.nodes → IsMakable s.start extra v u x
  makable counted extra_counted = record {
    start_in = omega (arith, turned.potentials.counted, ways.solvable.sound.start);
    extra_in = omega (arith, extra_counted, ways.solvable.sound.start);
    low = (potential_near s.start).0;
    high = (potential_near s.start).1;
    small = extra_small s.start ways.solvable.sound.start;
    counts = counts_small;
    rounds = rounds_small counted;
  }

  module _ (c : Solution) (unlimited : s.limits ≡ []) (counted : length v ≡ length s.loops) (made : IsMade s.start extra v u x c) where
    counts_are : (i : ℕ) → number_at c.x i ≡ numbers x i
    counts_are i = ap (λ zs. number_at zs i) made.x_is ∙ mapped_at x i

    rounds_are : (k : ℕ) → number_at c.v k ≡ numbers v k
    rounds_are k = ap (λ zs. number_at zs k) made.v_is ∙ mapped_at v k

    potentials_are : (p : ℕ) (z : ℤ) → potential_at u p ≡ Some z → number_at c.u p ≡ z
    potentials_are p z at = ap (λ zs. number_at zs p) made.u_is ∙ settled_at u p ∙ ap settled at

    pub made_whole : IsWhole c
    made_whole = (made.den, made.scale)

    pub made_holds : SolutionHolds s c
    made_holds = solution_holds s nest ways.solvable.nested (numbers v) c (potential_at u) value ways.solvable.sound unlimited ways.solvable.ending turned.potentials.met
        (flow_same s nest (numbers v) (length s.loops) value (numbers x) (number_at c.x) (λ i. sym (counts_are i)) turned.counts.flow)
        turned.potentials.at_start (λ k. omega (arith, ints)) rounds_are (λ p z known at. potentials_are p z at)
        (ap length made.x_is ∙ length-map x pos ∙ turned.counts.counted) (ap length made.u_is ∙ length-map u settled ∙ turned.potentials.counted) (ap length made.v_is ∙ length-map v pos ∙ counted) made.w_is made.den made.scale
        (made.num ∙ ap₂ (λ a b. a +ℤ b) (settled_at u s.start ∙ ap settled turned.potentials.at_start) start_part)

    round_small : (k : ℕ) → slice_index v k ≤ 2 ^ 100
    round_small k = by (cases_lt k (length v))
      where
        by : (k < length v) ⊎ (length v ≤ k) → slice_index v k ≤ 2 ^ 100
        by (inl less) = let own = get_within s.loops k (omega (arith, less, counted)) in let done = rounds.done k own.0 own.1 (omega arith) in omega (arith, done.small)
        by (inr more) = omega (arith, get_or-eq_default v 0 more)

    -- a loop's surcharge is that of its head
    surcharge_low : (k : ℕ) (l : SystemLoop) → slice_get s.loops k ≡ Some l → (pos l.bound *ℤ numbers v k) ≤ℤ pos (2 ^ 100)
    surcharge_low k l at =
        let known : l.head < s.nodes = (get_all (IsSystemLoop s) s.loops k l at ways.solvable.sound.loops).head in
        let term = term_low (λ m o. chosen (l.head == o.head) (pos o.bound *ℤ numbers v m)) s.loops (λ m o. some (l.head == o.head) m o) k l at in
        omega (arith, ints, term.1, ap (λ b. chosen b (pos l.bound *ℤ numbers v k)) (test_same l.head l.head refl), rounds.charged l.head, extra_small l.head known)
      where
        some : (b : Bool) (m : ℕ) (o : SystemLoop) → pos 0 ≤ℤ chosen b (pos o.bound *ℤ numbers v m)
        some true m o = omega (arith, ints, monotone (pos o.bound) (pos 0) (numbers v m) (omega (arith, ints)) (omega (arith, ints)), *ℤ-zero (pos o.bound))
        some false m o = omega (arith, ints)

    comes : (l : SystemLoop) → entered s.start (pos 1) (number_at c.x) l ≡ entered s.start (pos 1) (numbers x) l
    comes l = ap (λ z. z +ℤ chosen (l.head == s.start) (pos 1)) (sum_same (λ _ i. number_at c.x i) (λ _ i. numbers x i) l.entry (λ j i at. counts_are i))

    come_low : (k : ℕ) (l : SystemLoop) → slice_get s.loops k ≡ Some l → entered s.start (pos 1) (number_at c.x) l ≤ℤ pos (rounds_in nest (bounds_of s) 0 k l.head)
    come_low k l at = omega (arith, ints, comes l, turned.counts.come k l at (slice_get_within s.loops k l at))

    made_narrow : AreNarrow s c
    made_narrow = record {
      few = omega (arith, ways.solvable.few, ways.solvable.loops_few);
      unlimited = unlimited;
      u_low = λ p. subst (λ zs. neg_ℤ (pos (2 ^ 120)) ≤ℤ number_at zs p) (sym made.u_is) (potential_near p).0;
      u_high = λ p. subst (λ zs. number_at zs p ≤ℤ pos (2 ^ 120)) (sym made.u_is) (potential_near p).1;
      v_some = λ k. omega (arith, ints, rounds_are k);
      v_small = λ k. omega (arith, ints, rounds_are k, round_small k);
      surcharges = λ k l at. omega (arith, ints, ap (λ z. pos l.bound *ℤ z) (rounds_are k), surcharge_low k l at);
      x_some = λ i. omega (arith, ints, counts_are i);
      visits = λ p known. omega (
        arith,
        ints,
        sum_same (λ i t. chosen (t.source == p) (number_at c.x i)) (λ i t. chosen (t.source == p) (numbers x i)) s.steps (λ i t at. ap (chosen (t.source == p)) (counts_are i)),
        turned.counts.seen p known,
        prefix_small nest s ways.solvable w.order.items ways.order (length s.loops) p (omega arith) known,
      );
      come = λ k l at. omega (
        arith,
        ints,
        come_low k l at,
        prefix_small nest s ways.solvable w.order.items ways.order k l.head (omega (arith, slice_get_within s.loops k l at)) (get_all (IsSystemLoop s) s.loops k l at ways.solvable.sound.loops).head,
      );
      allowed = λ k l at. allowed_small nest s ways.solvable w.order.items ways.order k l at (entered s.start (pos 1) (number_at c.x) l) (come_low k l at);
      costs = λ i t at. omega (arith, cost_small nest s ways.solvable w.order.items ways.order i t at);
    }

    pub made_never_wide : IsWideSolution s c → ⊥
    made_never_wide = never_wide s c made_holds made_whole made_narrow
