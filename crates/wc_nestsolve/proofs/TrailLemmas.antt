-- What a way to a goal adds to the counts.
use Rattle.std.proofs.Common.{◌≡◌, ℕ, zero, suc, ◌==◌, ◌&&◌, ◌+◌, ◌<◌, ◌≤◌, ℤ, pos, ◌+ℤ◌, ◌-ℤ◌, ◌*ℤ◌, ◌≤ℤ◌, List, [], ◌∷◌, length, slice_get, slice_index, Option, Some, None, option_map, Bool, true, false, not, if◌then◌else◌, refl, sym, ap, ap₂, subst, ◌∙◌, arith}
use Rattle.std.proofs.lemmas.Option.{same_Some}
use Rattle.std.proofs.Math.IntN.{*ℤ-zero}
use Rattle.std.proofs.lemmas.Int.{ints}
use Rattle.std.specs.Prelude.{IfSome}
use Rattle.wc_base.specs.Sums.{sum_in, chosen}
use Rattle.wc_base.proofs.Products.{monotone, spread_left, times_one}
use Rattle.wc_base.proofs.SumLemmas.{sum_same, sum_zero, sum_add, sum_pick}
use Rattle.wc_model.specs.declared.flow_system.System.{System}
use Rattle.wc_model.specs.declared.flow_system.SystemLoop.{SystemLoop}
use Rattle.wc_model.specs.declared.flow_system.SystemStep.{SystemStep}
use Rattle.wc_model.specs.declared.graphs.Nest.{Nest}
use Rattle.wc_model.specs.Flow.Places.{is_listed}
use Rattle.wc_model.specs.Flow.SystemWalks.{visits}
use Rattle.wc_model.specs.Flow.Systems.{ArePlaces, IsSystem, IsSystemLoop, is_marked, leads_to}
use Rattle.wc_nestsolve.specs.declared.found.Found.{Found}
use Rattle.wc_nestsolve.specs.Inner.Flows.{IsFlow, IsRoundOf, linear}
use Rattle.wc_nestsolve.specs.Inner.Nested.{IsLoop, IsNested, IsStep, lies}
use Rattle.wc_nestsolve.specs.Inner.Tables.{IsAttained, IsDownward, IsTable, found_at, reach}
use Rattle.wc_nestsolve.specs.Inner.Trails.{IsTrail, ends, goes, given_at, tally, begins_with, goes_to, walk_from}
use Rattle.wc_nestsolve.specs.Inner.Weights.{surcharge, weight}
use Rattle.wc_nestsolve.proofs.ListedSums.{chosen_linear, get_all, sum_listed, times_chosen}
use Rattle.wc_nestsolve.proofs.WeightLemmas.{same_by, test_apart, test_same, weight_ahead, weight_back, weight_exit}

module _ (s : System) (nest : Nest) (goal : Option ℕ) (Inside : ℕ → Type 0) (extra : List ℕ) where
  -- a linear function of its counts is the sum over the walk
  pub trail_linear : (g : ℕ → SystemStep → ℤ) (p z : ℕ) (walk : List ℕ) → IsTrail s nest goal Inside extra p walk z → linear g s.steps (visits walk) ≡ tally g s.steps walk
  trail_linear g p z walk trail = by p walk z trail
    where
      one : (i : ℕ) (t : SystemStep) (rest : List ℕ) → IsStep s nest i t → linear g s.steps (visits (i ∷ rest)) ≡ given_at g i (slice_get s.steps i) +ℤ linear g s.steps (visits rest)
      one i t rest at =
          sum_same (λ j t'. g j t' *ℤ (chosen (i == j) (pos 1) +ℤ visits rest j)) (λ j t'. chosen (i == j) (g j t') +ℤ g j t' *ℤ visits rest j) s.steps
          (λ j t' h. spread_left (g j t') (chosen (i == j) (pos 1)) (visits rest j)
          ∙ ap (λ a. a +ℤ g j t' *ℤ visits rest j) (times_chosen (i == j) (g j t') (pos 1) ∙ ap (chosen (i == j)) (times_one (g j t'))))
          ∙ sum_add (λ j t'. chosen (i == j) (g j t')) (λ j t'. g j t' *ℤ visits rest j) s.steps
          ∙ ap (λ a. a +ℤ linear g s.steps (visits rest)) (sum_pick g s.steps i t at ∙ sym (ap (given_at g i) at))

      by : (p : ℕ) (walk : List ℕ) (z : ℕ) → IsTrail s nest goal Inside extra p walk z → linear g s.steps (visits walk) ≡ tally g s.steps walk
      by p walk z (ends i t at inside to marked) = one i t [] at ∙ ap (λ a. given_at g i (slice_get s.steps i) +ℤ a) (sum_zero (λ j t'. g j t' *ℤ pos 0) s.steps (λ j t' h. *ℤ-zero (g j t')))
      by p walk z (goes i q y t rest at inside ahead to more) = one i t rest at ∙ ap (λ a. given_at g i (slice_get s.steps i) +ℤ a) (by q rest y more)

  pub trail_inside : (p z : ℕ) (walk : List ℕ) → IsTrail s nest goal Inside extra p walk z → Inside p
  trail_inside p z walk (ends i t at inside to marked) = inside
  trail_inside p z walk (goes i q y t rest at inside ahead to more) = inside

  -- it leaves each node as often as it comes to it, but for its ends
  pub trail_balance : (r p z : ℕ) (walk : List ℕ) → IsTrail s nest goal Inside extra p walk z
      → tally (λ i t. chosen (t.source == r) (pos 1)) s.steps walk -ℤ tally (λ i t. chosen (leads_to t.target r) (pos 1)) s.steps walk ≡ chosen (p == r) (pos 1) -ℤ chosen (leads_to goal r) (pos 1)
  trail_balance r p z walk (ends i t at inside to marked) = omega (
    arith,
    ints,
    ap (given_at (λ i t. chosen (t.source == r) (pos 1)) i) at,
    ap (given_at (λ i t. chosen (leads_to t.target r) (pos 1)) i) at,
    ap (λ o. chosen (leads_to o r) (pos 1)) to,
  )
  trail_balance r p z walk (goes i q y t rest at inside ahead to more) = omega (
    arith,
    ints,
    ap (given_at (λ i t. chosen (t.source == r) (pos 1)) i) at,
    ap (given_at (λ i t. chosen (leads_to t.target r) (pos 1)) i) at,
    ap (λ o. chosen (leads_to o r) (pos 1)) to,
    trail_balance r q y rest more,
  )

  -- a sum in which no step ahead counts, and the last one as it says
  pub trail_last : (g : ℕ → SystemStep → ℤ) (last : ℤ)
      → ((i : ℕ) (t : SystemStep) → IsStep s nest i t → Inside t.source → t.target ≡ goal → IfSome goal (λ _. is_marked nest i ≡ true) → g i t ≡ last)
      → ((i q : ℕ) (t : SystemStep) → IsStep s nest i t → Inside t.source → Inside q → is_marked nest i ≡ false → t.target ≡ Some q → g i t ≡ pos 0)
      → (p z : ℕ) (walk : List ℕ) → IsTrail s nest goal Inside extra p walk z → tally g s.steps walk ≡ last
  trail_last g last at_end at_step p z walk (ends i t at inside to marked) = omega (arith, ints, ap (given_at g i) at, at_end i t at inside to marked)
  trail_last g last at_end at_step p z walk (goes i q y t rest at inside ahead to more) =
      omega (arith, ints, ap (given_at g i) at, at_step i q t at inside (trail_inside q y rest more) ahead to, trail_last g last at_end at_step q y rest more)

-- the weights of its steps
module _ (s : System) (nest : Nest) (is : IsNested s nest) (v : ℕ → ℤ) (Inside : ℕ → Type 0) (extra : List ℕ)
    (charged : (q : ℕ) → Inside q → pos (slice_index extra q) ≡ surcharge s v q) where
  pub way_weight : (p z : ℕ) (walk : List ℕ) → IsTrail s nest None Inside extra p walk z → tally (weight s v) s.steps walk ≡ pos z
  way_weight p z walk (ends i t at inside to marked) = omega (arith, ints, ap (given_at (weight s v) i) at, weight_exit s nest is v i t at to)
  way_weight p z walk (goes i q y t rest at inside ahead to more) = omega (
    arith,
    ints,
    ap (given_at (weight s v) i) at,
    weight_ahead s nest is v i q t at to ahead,
    charged q (trail_inside s nest None Inside extra q y rest more),
    way_weight q y rest more,
  )

  pub round_weight : (k : ℕ) (l : SystemLoop) → IsLoop s nest k l → (p z : ℕ) (walk : List ℕ) → IsTrail s nest (Some l.head) Inside extra p walk z → tally (weight s v) s.steps walk ≡ pos z -ℤ v k
  round_weight k l here p z walk (ends i t at inside to marked) = omega (arith, ints, ap (given_at (weight s v) i) at, weight_back s nest is v i k t l at here to marked)
  round_weight k l here p z walk (goes i q y t rest at inside ahead to more) = omega (
    arith,
    ints,
    ap (given_at (weight s v) i) at,
    weight_ahead s nest is v i q t at to ahead,
    charged q (trail_inside s nest (Some l.head) Inside extra q y rest more),
    round_weight k l here q y rest more,
  )

visits_some : (walk : List ℕ) (i : ℕ) → pos 0 ≤ℤ visits walk i
visits_some [] i = omega (arith, ints)
visits_some (j ∷ walk) i = by (j == i) (visits_some walk i)
  where
    by : (b : Bool) → pos 0 ≤ℤ visits walk i → pos 0 ≤ℤ (chosen b (pos 1) +ℤ visits walk i)
    by true some = omega (arith, ints)
    by false some = omega (arith, ints)

listed_linear : (s : System) (places : List ℕ) (x : ℕ → ℤ) → ArePlaces (length s.steps) places → sum_in x places ≡ linear (λ i t. chosen (is_listed i places) (pos 1)) s.steps x
listed_linear s places x are = sym (sum_listed x s.steps places are.0 are.1) ∙ chosen_linear (λ i t. is_listed i places) s.steps x

-- The way of the start to the exit.
module _ (s : System) (nest : Nest) (is : IsNested s nest) (sound : IsSystem s) (v : ℕ → ℤ) (Inside : ℕ → Type 0) (extra : List ℕ)
    (charged : (q : ℕ) → Inside q → pos (slice_index extra q) ≡ surcharge s v q) (z : ℕ) (walk : List ℕ) where
  pub way_flow : IsTrail s nest None Inside extra s.start walk z → IsFlow s nest v 0 (pos z) (visits walk)
  way_flow trail = record {
    some = visits_some walk;
    balanced = λ p. omega (
      arith,
      ints,
      chosen_linear (λ i t. t.source == p) s.steps (visits walk),
      chosen_linear (λ i t. leads_to t.target p) s.steps (visits walk),
      trail_linear s nest None Inside extra (λ i t. chosen (t.source == p) (pos 1)) s.start z walk trail,
      trail_linear s nest None Inside extra (λ i t. chosen (leads_to t.target p) (pos 1)) s.start z walk trail,
      trail_balance s nest None Inside extra p s.start z walk trail,
    );
    bounded = λ k l at. omega (arith, ints, none k l at, times_low l);
    tight = λ k l at less. absurd (omega arith);
    ahead = λ k l at more. none k l at;
    value_is = trail_linear s nest None Inside extra (weight s v) s.start z walk trail ∙ way_weight s nest is v Inside extra charged s.start z walk trail;
  }
    where
      none : (k : ℕ) (l : SystemLoop) → IsLoop s nest k l → sum_in (visits walk) l.back ≡ pos 0
      none k l at =
          listed_linear s l.back (visits walk) (get_all (IsSystemLoop s) s.loops k l at sound.loops).back
          ∙ trail_linear s nest None Inside extra (λ i t. chosen (is_listed i l.back) (pos 1)) s.start z walk trail
          ∙ trail_last s nest None Inside extra (λ i t. chosen (is_listed i l.back) (pos 1)) (pos 0)
          (λ i t here inside to marked. ap (λ b. chosen b (pos 1)) (is.back i k t l here at ∙ ap (λ o. leads_to o l.head && is_marked nest i) to))
          (λ i q t here inside inside_q ahead to. ap (λ b. chosen b (pos 1)) (is.back i k t l here at ∙ ap (λ b. leads_to t.target l.head && b) ahead ∙ no_and (leads_to t.target l.head)))
          s.start z walk trail
        where
          no_and : (b : Bool) → (b && false) ≡ false
          no_and true = refl
          no_and false = refl

      sum_low : (places : List ℕ) → pos 0 ≤ℤ sum_in (visits walk) places
      sum_low [] = omega (arith, ints)
      sum_low (i ∷ places) = omega (arith, ints, visits_some walk i, sum_low places)

      start_low : (b : Bool) → pos 0 ≤ℤ chosen b (pos 1)
      start_low true = omega (arith, ints)
      start_low false = omega (arith, ints)

      times_low : (l : SystemLoop) → pos 0 ≤ℤ (pos l.bound *ℤ (sum_in (visits walk) l.entry +ℤ chosen (l.head == s.start) (pos 1)))
      times_low l = omega (
        arith,
        ints,
        *ℤ-zero (pos l.bound),
        monotone (pos l.bound) (pos 0) (sum_in (visits walk) l.entry +ℤ chosen (l.head == s.start) (pos 1)) (omega (arith, ints)) (omega (arith, ints, sum_low l.entry, start_low (l.head == s.start))),
      )

-- A round of a loop.
module _ (s : System) (nest : Nest) (is : IsNested s nest) (sound : IsSystem s) (v : ℕ → ℤ) (k : ℕ) (l : SystemLoop) (here : IsLoop s nest k l) (Inside : ℕ → Type 0) (extra : List ℕ)
    (charged : (q : ℕ) → Inside q → pos (slice_index extra q) ≡ surcharge s v q) (class : (q : ℕ) → Inside q → lies nest k q ≡ true)
    (z : ℕ) (walk : List ℕ) (worth : pos z ≡ v k) (trail : IsTrail s nest (Some l.head) Inside extra l.head walk z) where
  no_and : (b : Bool) → (b && false) ≡ false
  no_and true = refl
  no_and false = refl

  yes_and : (b : Bool) → (b && true) ≡ b
  yes_and true = refl
  yes_and false = refl

  backs : (m : ℕ) (o : SystemLoop) → IsLoop s nest m o → sum_in (visits walk) o.back ≡ chosen (l.head == o.head) (pos 1)
  backs m o there =
      listed_linear s o.back (visits walk) (get_all (IsSystemLoop s) s.loops m o there sound.loops).back
      ∙ trail_linear s nest (Some l.head) Inside extra (λ i t. chosen (is_listed i o.back) (pos 1)) l.head z walk trail
      ∙ trail_last s nest (Some l.head) Inside extra (λ i t. chosen (is_listed i o.back) (pos 1)) (chosen (l.head == o.head) (pos 1))
      (λ i t at inside to marked. ap (λ b. chosen b (pos 1)) (is.back i m t o at there ∙ ap₂ (λ x b. leads_to x o.head && b) to marked ∙ yes_and (l.head == o.head)))
      (λ i q t at inside inside_q ahead to. ap (λ b. chosen b (pos 1)) (is.back i m t o at there ∙ ap (λ b. leads_to t.target o.head && b) ahead ∙ no_and (leads_to t.target o.head)))
      l.head z walk trail

  entries : (m : ℕ) (o : SystemLoop) → IsLoop s nest m o → m ≤ k → sum_in (visits walk) o.entry ≡ pos 0
  entries m o there low =
      listed_linear s o.entry (visits walk) (get_all (IsSystemLoop s) s.loops m o there sound.loops).entry
      ∙ trail_linear s nest (Some l.head) Inside extra (λ i t. chosen (is_listed i o.entry) (pos 1)) l.head z walk trail
      ∙ trail_last s nest (Some l.head) Inside extra (λ i t. chosen (is_listed i o.entry) (pos 1)) (pos 0)
      (λ i t at inside to marked. ap (λ b. chosen b (pos 1)) (is.entry i m t o at there ∙ ap (λ b. leads_to t.target o.head && not b) marked ∙ no_and (leads_to t.target o.head)))
      (λ i q t at inside inside_q ahead to. ap (λ b. chosen b (pos 1)) (is.entry i m t o at there ∙ ap₂ (λ x b. leads_to x o.head && not b) to ahead ∙ yes_and (q == o.head) ∙ never i q t at inside inside_q ahead to (q == o.head) refl))
      l.head z walk trail
    where
      never : (i q : ℕ) (t : SystemStep) → IsStep s nest i t → Inside t.source → Inside q → is_marked nest i ≡ false → t.target ≡ Some q → (b : Bool) → (q == o.head) ≡ b → b ≡ false
      never i q t at inside inside_q ahead to false is_b = refl
      never i q t at inside inside_q ahead to true is_b =
          let head : q ≡ o.head = same_by q o.head is_b in
          let high : k ≤ m = is.outer k m l o here there (subst (λ r. lies nest k r ≡ true) head (class q inside_q)) in
          let same : m ≡ k = omega arith in
          let out : lies nest m t.source ≡ false = is.unmarked i m t o at there (to ∙ ap Some head) ahead in
          let in_k : lies nest m t.source ≡ true = subst (λ n. lies nest n t.source ≡ true) (sym same) (class t.source inside) in
          cc

  pub round_of : IsRoundOf s nest v k (visits walk)
  round_of = record {
    some = visits_some walk;
    balanced = λ p. omega (
      arith,
      ints,
      chosen_linear (λ i t. t.source == p) s.steps (visits walk),
      chosen_linear (λ i t. leads_to t.target p) s.steps (visits walk),
      trail_linear s nest (Some l.head) Inside extra (λ i t. chosen (t.source == p) (pos 1)) l.head z walk trail,
      trail_linear s nest (Some l.head) Inside extra (λ i t. chosen (leads_to t.target p) (pos 1)) l.head z walk trail,
      trail_balance s nest (Some l.head) Inside extra p l.head z walk trail,
    );
    own = λ o there. backs k o there ∙ ap (λ b. chosen b (pos 1)) (test_same l.head o.head (same_head o there));
    others = λ m o there apart. backs m o there ∙ ap (λ b. chosen b (pos 1)) (test_apart l.head o.head (λ same. apart (sym (is.heads k m l o here there same))));
    entries = entries;
    value_is = trail_linear s nest (Some l.head) Inside extra (weight s v) l.head z walk trail ∙ round_weight s nest is v Inside extra charged k l here l.head z walk trail ∙ nothing;
  }
    where
      same_head : (o : SystemLoop) → IsLoop s nest k o → l.head ≡ o.head
      same_head o there = ap (λ x. x.head) (same_Some l o (sym here ∙ there))

      nothing : pos z -ℤ v k ≡ pos 0
      nothing = omega (arith, ints, worth)

-- A table's walk is such a way.
module _ (s : System) (nest : Nest) (goal : Option ℕ) (Inside : ℕ → Type 0) (extra nodes : List ℕ) (best : List (Option Found))
    (down : IsDownward s nest nodes) (stands : (p : ℕ) → Inside p → (j : ℕ) × (slice_get nodes j ≡ Some p)) (table : IsTable s nest goal Inside extra best) where
  walk_none : (n : ℕ) → walk_from s nest best n None ≡ []
  walk_none zero = refl
  walk_none (suc n) = refl

  pub walk_trail : (n j p : ℕ) (f : Found) → j < n → slice_get nodes j ≡ Some p → found_at best p ≡ Some f → IsTrail s nest goal Inside extra p (walk_from s nest best n (Some p)) f.value
  walk_trail zero j p f less at found = absurd (omega arith)
  walk_trail (suc n) j p f less at found =
      subst (λ o. IsTrail s nest goal Inside extra p (begins_with o (λ place. walk_from s nest best n (goes_to (is_marked nest place) (slice_get s.steps place)))) f.value) (sym found)
      (subst (λ r. IsTrail s nest goal Inside extra r (f.place ∷ walk_from s nest best n (goes_to (is_marked nest f.place) (slice_get s.steps f.place))) f.value) way.source
      (by (λ j' q g less' at' there. walk_trail n j' q g less' at' there) way.step.target (is_marked nest f.place) refl refl way.worth))
    where
      way : IsAttained s nest goal extra best p f
      way = table.attained p f found

      inside : Inside way.step.source
      inside = subst Inside (sym way.source) (table.within p f found)

      last : (b : Bool) (o : Option ℕ) → goes_to b (Some way.step) ≡ None → is_marked nest f.place ≡ b → way.step.target ≡ goal → IfSome goal (λ _. is_marked nest f.place ≡ true) → way.step.cost ≡ f.value
          → IsTrail s nest goal Inside extra way.step.source (f.place ∷ walk_from s nest best n (goes_to (is_marked nest f.place) (slice_get s.steps f.place))) f.value
      last b o stops is to marked worth =
          subst (λ w. IsTrail s nest goal Inside extra way.step.source (f.place ∷ w) f.value)
          (sym (ap (walk_from s nest best n) (ap₂ goes_to is way.at ∙ stops) ∙ walk_none n))
          (subst (λ z. IsTrail s nest goal Inside extra way.step.source (f.place ∷ []) z) worth (ends f.place way.step way.at inside to marked))

      by : ((j' q : ℕ) (g : Found) → j' < n → slice_get nodes j' ≡ Some q → found_at best q ≡ Some g → IsTrail s nest goal Inside extra q (walk_from s nest best n (Some q)) g.value) → (o : Option ℕ) (b : Bool) → way.step.target ≡ o → is_marked nest f.place ≡ b → reach goal b way.step.cost o extra best ≡ Some f.value
          → IsTrail s nest goal Inside extra way.step.source (f.place ∷ walk_from s nest best n (goes_to (is_marked nest f.place) (slice_get s.steps f.place))) f.value
      by walk_more None b to is worth = exit goal refl worth
        where
          stops : (b : Bool) → goes_to b (Some way.step) ≡ None
          stops true = refl
          stops false = to

          exit : (g : Option ℕ) → goal ≡ g → reach g b way.step.cost None extra best ≡ Some f.value
              → IsTrail s nest goal Inside extra way.step.source (f.place ∷ walk_from s nest best n (goes_to (is_marked nest f.place) (slice_get s.steps f.place))) f.value
          exit None is_g gives = last b None (stops b) is (to ∙ sym is_g) (subst (λ x. IfSome x (λ _. is_marked nest f.place ≡ true)) (sym is_g) tt) (same_Some way.step.cost f.value gives)
          exit (Some h) is_g gives = cc
      by walk_more (Some q) true to is worth = back goal refl worth
        where
          back : (g : Option ℕ) → goal ≡ g → reach g true way.step.cost (Some q) extra best ≡ Some f.value
              → IsTrail s nest goal Inside extra way.step.source (f.place ∷ walk_from s nest best n (goes_to (is_marked nest f.place) (slice_get s.steps f.place))) f.value
          back None is_g gives = cc
          back (Some h) is_g gives = at_head (h == q) refl gives
            where
              at_head : (b : Bool) → (h == q) ≡ b → (if b then Some way.step.cost else None) ≡ Some f.value
                  → IsTrail s nest goal Inside extra way.step.source (f.place ∷ walk_from s nest best n (goes_to (is_marked nest f.place) (slice_get s.steps f.place))) f.value
              at_head true same gives' =
                  last true (Some q) refl is (to ∙ ap Some (sym (same_by h q same)) ∙ sym is_g) (subst (λ x. IfSome x (λ _. is_marked nest f.place ≡ true)) (sym is_g) is) (same_Some way.step.cost f.value gives')
              at_head false apart gives' = cc
      by walk_more (Some q) false to is worth = on (found_at best q) refl worth
        where
          on : (o : Option Found) → found_at best q ≡ o → option_map (λ g. way.step.cost + (slice_index extra q + g.value)) o ≡ Some f.value
              → IsTrail s nest goal Inside extra way.step.source (f.place ∷ walk_from s nest best n (goes_to (is_marked nest f.place) (slice_get s.steps f.place))) f.value
          on None there gives = cc
          on (Some g) there gives =
              let place = stands q (table.within q g there) in
              let lower = down.lower f.place j place.0 q way.step way.at is to (at ∙ ap Some (sym way.source)) place.1 in
              let more = walk_more place.0 q g (omega arith) place.1 there in
              subst (λ w. IsTrail s nest goal Inside extra way.step.source (f.place ∷ w) f.value) (sym (ap (walk_from s nest best n) (ap₂ goes_to is way.at ∙ to)))
              (subst (λ z. IsTrail s nest goal Inside extra way.step.source (f.place ∷ walk_from s nest best n (Some q)) z) (same_Some (way.step.cost + (slice_index extra q + g.value)) f.value gives)
              (goes f.place q g.value way.step (walk_from s nest best n (Some q)) way.at inside is to more))
