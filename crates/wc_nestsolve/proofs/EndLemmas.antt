-- The first potentials, that each node gets one, and that potentials and counts make a solution.
use Rattle.std.proofs.Common.{◌≡◌, ℕ, ◌==◌, ◌+◌, ◌<◌, ◌≤◌, ℤ, pos, ◌+ℤ◌, ◌*ℤ◌, ◌≤ℤ◌, ◌<ℤ◌, List, [], length, slice_index, Option, Some, None, option_map, Bool, true, false, refl, sym, ap, ap₂, subst, ◌∙◌, arith}
use Rattle.std.proofs.lemmas.Int.{ints}
use Rattle.std.proofs.lemmas.Option.{slice_get_within}
use Rattle.std.specs.Prelude.{IfSome}
use Rattle.wc_base.specs.Sums.{sum_placed, chosen}
use Rattle.wc_base.proofs.Products.{one_times, times_one}
use Rattle.wc_base.proofs.SumLemmas.{sum_same}
use Rattle.wc_model.specs.declared.flow_system.Solution.{Solution}
use Rattle.wc_model.specs.declared.flow_system.System.{System}
use Rattle.wc_model.specs.declared.flow_system.SystemStep.{SystemStep}
use Rattle.wc_model.specs.declared.graphs.Nest.{Nest}
use Rattle.wc_model.specs.Flow.Certificates.{ArePrices, SolutionHolds, ahead_of, dual_value, limit_price, scaled, solution_prices, step_price}
use Rattle.wc_model.specs.Flow.Counts.{IsFeasible, cycles}
use Rattle.wc_model.specs.Flow.Ends.{system_ends}
use Rattle.wc_model.specs.Flow.Places.{is_listed, number_at}
use Rattle.wc_model.specs.Flow.Systems.{IsSystem, is_marked}
use Rattle.wc_model.specs.Flow.Walks.{Joins}
use Rattle.wc_model.specs.Program.Reaching.{Ends, exits, onward}
use Rattle.wc_model.proofs.Places.{get_from_contains}
use Rattle.wc_nestsolve.specs.declared.found.Found.{Found}
use Rattle.wc_nestsolve.specs.Inner.Flows.{IsFlow}
use Rattle.wc_nestsolve.specs.Inner.Nested.{IsNested, IsStep}
use Rattle.wc_nestsolve.specs.Inner.Potentials.{Covers, IsMet, IsPotential, plus, potential_ahead, potential_of}
use Rattle.wc_nestsolve.specs.Inner.Tables.{IsTable, found_at, reach}
use Rattle.wc_nestsolve.specs.Inner.Weights.{surcharge, weight}
use Rattle.wc_nestsolve.proofs.FlowLemmas.{flow_feasible, flow_value}
use Rattle.wc_nestsolve.proofs.ListedSums.{get_all}
use Rattle.wc_nestsolve.proofs.WeightLemmas.{weight_ahead, weight_exit}

module _ (s : System) (nest : Nest) (is : IsNested s nest) (v : ℕ → ℤ) where
  -- The ways to the exit meet the line on each step ahead.
  module _ (Inside : ℕ → Type 0) (extra : List ℕ) (best : List (Option Found)) (table : IsTable s nest None Inside extra best)
      (all : (i : ℕ) (t : SystemStep) → IsStep s nest i t → Inside t.source) (charged : (q : ℕ) → Inside q → pos (slice_index extra q) ≡ surcharge s v q) where
    pub first_potential : IsPotential s nest v 0 (λ p. potential_of (found_at best p))
    first_potential = record { ahead = λ i t at ahead. by i t at ahead t.target refl; back = λ i m t o at there less marked to. absurd (omega arith) }
      where
        from : (i z : ℕ) (t : SystemStep) (c : ℤ) → (f : Found) × (found_at best t.source ≡ Some f) × (z ≤ f.value) → c ≡ pos z → Covers (potential_of (found_at best t.source)) (Some c)
        from i z t c f same = subst (λ o. Covers (potential_of o) (Some c)) (sym f.1) (omega (arith, ints, f.2, same))

        by : (i : ℕ) (t : SystemStep) → IsStep s nest i t → is_marked nest i ≡ false → (o : Option ℕ) → t.target ≡ o → IsMet s nest v (λ p. potential_of (found_at best p)) i t
        by i t at ahead None to =
            subst (λ o. Covers (potential_of (found_at best t.source)) (plus (weight s v i t) (potential_ahead (λ p. potential_of (found_at best p)) o))) (sym to)
            (from i t.cost t (weight s v i t +ℤ pos 0) (table.most i t.cost t at (all i t at) (ap (λ o. reach None (is_marked nest i) t.cost o extra best) to))
            (omega (arith, ints, weight_exit s nest is v i t at to)))
        by i t at ahead (Some q) to =
            subst (λ o. Covers (potential_of (found_at best t.source)) (plus (weight s v i t) (potential_ahead (λ p. potential_of (found_at best p)) o))) (sym to) (through (found_at best q) refl)
          where
            through : (o : Option Found) → found_at best q ≡ o → Covers (potential_of (found_at best t.source)) (plus (weight s v i t) (potential_of o))
            through None there = tt
            through (Some f) there =
                let worth = ap₂ (λ b o. reach None b t.cost o extra best) ahead to ∙ ap (option_map (λ g. t.cost + (slice_index extra q + g.value))) there in
                from i (t.cost + (slice_index extra q + f.value)) t (weight s v i t +ℤ pos f.value) (table.most i (t.cost + (slice_index extra q + f.value)) t at (all i t at) worth)
                (omega (arith, ints, weight_ahead s nest is v i q t at to ahead, charged q (table.within q f there)))

  -- A node from which a walk comes to the exit has a potential in the end.
  module _ (u : ℕ → Option ℤ) (met : IsPotential s nest v (length s.loops) u) where
    pub all_met : (i : ℕ) (t : SystemStep) → IsStep s nest i t → IsMet s nest v u i t
    all_met i t at = by (is_marked nest i) refl
      where
        by : (b : Bool) → is_marked nest i ≡ b → IsMet s nest v u i t
        by false ahead = met.ahead i t at ahead
        by true marked = let own = is.owned i t at marked in met.back i own.0 t own.1 at own.2 (slice_get_within s.loops own.0 own.1 own.2) marked own.3

    covered : (o : Option ℤ) (b : ℤ) → Covers o (Some b) → (z : ℤ) × (o ≡ Some z)
    covered None b covers = absurd covers
    covered (Some a) b covers = (a, refl)

    by_step : (p : ℕ) (o : Option ℕ) (y : ℤ) → potential_ahead u o ≡ Some y → Joins system_ends s.steps p o → (z : ℤ) × (u p ≡ Some z)
    by_step p o y ahead (t, among, from, to) =
        let place = get_from_contains s.steps t among in
        let line : Covers (u p) (Some (weight s v place.0 t +ℤ y)) =
        subst (λ r. Covers (u r) (Some (weight s v place.0 t +ℤ y))) from
        (subst (λ x. Covers (u t.source) (plus (weight s v place.0 t) x)) (ap (potential_ahead u) to ∙ ahead) (all_met place.0 t place.1)) in
        covered (u p) (weight s v place.0 t +ℤ y) line

    pub has_potential : (p : ℕ) → Ends (Joins system_ends s.steps) p → (z : ℤ) × (u p ≡ Some z)
    has_potential p (exits step) = by_step p None (pos 0) refl step
    has_potential p (onward r step rest) = let next = has_potential r rest in by_step p (Some r) next.0 next.1 step

    -- the potentials and the rounds are prices
    pub prices_hold : (w : ℕ → ℤ) (known : IsSystem s) (ending : (p : ℕ) → p < s.nodes → Ends (Joins system_ends s.steps) p) (us : ℕ → ℤ) → ((k : ℕ) → k < length s.limits → pos 0 ≤ℤ w k) → ((p : ℕ) → limit_price w s.limits p ≡ pos 0)
        → ((p : ℕ) (z : ℤ) → p < s.nodes → u p ≡ Some z → us p ≡ z) → ((k : ℕ) → pos 0 ≤ℤ v k) → ArePrices s (scaled (pos 1)) (record { u = us; v = v; w = w })
    prices_hold w known ending us limits nothing same some = record {
      loops_some = λ k within. some k;
      limits_some = limits;
      steps = λ i t at. line i t at;
    }
      where
        sourced : (i : ℕ) (t : SystemStep) → IsStep s nest i t → t.source < s.nodes
        sourced i t at = get_all (λ x. x.source < s.nodes) s.steps i t at known.sources

        targeted : (i : ℕ) (t : SystemStep) → IsStep s nest i t → IfSome t.target (λ q. q < s.nodes)
        targeted i t at = get_all (λ x. IfSome x.target (λ q. q < s.nodes)) s.steps i t at known.targets

        ahead_is : (o : Option ℕ) → IfSome o (λ q. q < s.nodes) → potential_ahead u o ≡ Some (ahead_of us o)
        ahead_is None within = refl
        ahead_is (Some q) within = let z = has_potential q (ending q within) in z.1 ∙ ap Some (sym (same q z.0 within z.1))

        line : (i : ℕ) (t : SystemStep) → IsStep s nest i t → scaled (pos 1) t ≤ℤ step_price s (record { u = us; v = v; w = w }) i t
        line i t at =
            let p = has_potential t.source (ending t.source (sourced i t at)) in
            let low : Covers (Some p.0) (Some (weight s v i t +ℤ ahead_of us t.target)) =
            subst (λ x. Covers x (Some (weight s v i t +ℤ ahead_of us t.target))) p.1
            (subst (λ x. Covers (u t.source) (plus (weight s v i t) x)) (ahead_is t.target (targeted i t at)) (all_met i t at)) in
            omega (arith, ints, low, same t.source p.0 (sourced i t at) p.1, times_one (cycles t), nothing t.source)

  -- The whole.
  pub solution_holds : (c : Solution) (u : ℕ → Option ℤ) (value : ℤ) → IsSystem s → s.limits ≡ [] → ((p : ℕ) → p < s.nodes → Ends (Joins system_ends s.steps) p)
      → IsPotential s nest v (length s.loops) u → IsFlow s nest v (length s.loops) value (number_at c.x) → u s.start ≡ Some value
      → ((k : ℕ) → pos 0 ≤ℤ v k) → ((k : ℕ) → number_at c.v k ≡ v k) → ((p : ℕ) (z : ℤ) → p < s.nodes → u p ≡ Some z → number_at c.u p ≡ z)
      → length c.x ≡ length s.steps → length c.u ≡ s.nodes → length c.v ≡ length s.loops → c.w ≡ []
      → c.den ≡ pos 1 → c.scale ≡ pos 1 → c.num ≡ value +ℤ sum_placed (λ k l. chosen (l.head == s.start) (pos l.bound *ℤ v k)) s.loops → SolutionHolds s c
  solution_holds c u value known unlimited ending met flow at_start some vs us counts nodes loops limits den scale num = record {
    counts = counts;
    nodes = nodes;
    loops = loops;
    limits = ap length limits ∙ sym (ap length unlimited);
    scale = subst (λ z. pos 0 <ℤ z) (sym scale) (omega (arith, ints));
    feasible = subst (λ d. IsFeasible s d (number_at c.x)) (sym den) (flow_feasible s nest v value (number_at c.x) known flow unlimited);
    prices = subst (λ d. ArePrices s (scaled d) (solution_prices c)) (sym scale) priced;
    value = flow_value s nest v value (number_at c.x) known flow ∙ sym num;
    dual = ap₂ (λ a b. a *ℤ b) num scale ∙ times_one (value +ℤ sum_placed (λ k l. chosen (l.head == s.start) (pos l.bound *ℤ v k)) s.loops) ∙ sym (ap (λ d. d *ℤ dual_value s (solution_prices c)) den ∙ one_times (dual_value s (solution_prices c)) ∙ dual_is);
  }
    where
      priced : ArePrices s (scaled (pos 1)) (solution_prices c)
      priced =
          let p = prices_hold u met (number_at c.w) known ending (number_at c.u) (λ k within. absurd (omega (arith, within, ap length unlimited))) (λ p. ap (λ ls. limit_price (number_at c.w) ls p) unlimited) us some in
          record {
            loops_some = λ k within. subst (λ z. pos 0 ≤ℤ z) (sym (vs k)) (some k);
            limits_some = p.limits_some;
            steps = λ i t at. subst (λ z. scaled (pos 1) t ≤ℤ z) (step_same i t) (p.steps i t at);
          }
        where
          step_same : (i : ℕ) (t : SystemStep) → step_price s (record { u = number_at c.u; v = v; w = number_at c.w }) i t ≡ step_price s (solution_prices c) i t
          step_same i t = omega (
            arith,
            ints,
            sum_same (λ k l. chosen (is_listed i l.back) (v k)) (λ k l. chosen (is_listed i l.back) (number_at c.v k)) s.loops (λ k l at. ap (chosen (is_listed i l.back)) (sym (vs k))),
            sum_same (λ k l. chosen (is_listed i l.entry) (pos l.bound *ℤ v k)) (λ k l. chosen (is_listed i l.entry) (pos l.bound *ℤ number_at c.v k)) s.loops
                (λ k l at. ap (λ z. chosen (is_listed i l.entry) (pos l.bound *ℤ z)) (sym (vs k))),
          )

      dual_is : dual_value s (solution_prices c) ≡ value +ℤ sum_placed (λ k l. chosen (l.head == s.start) (pos l.bound *ℤ v k)) s.loops
      dual_is = omega (
        arith,
        ints,
        us s.start value known.start at_start,
        sum_same (λ k l. chosen (l.head == s.start) (pos l.bound *ℤ number_at c.v k)) (λ k l. chosen (l.head == s.start) (pos l.bound *ℤ v k)) s.loops
            (λ k l at. ap (λ z. chosen (l.head == s.start) (pos l.bound *ℤ z)) (vs k)),
        ap (λ ls. sum_placed (λ k l. l.constant *ℤ number_at c.w k) ls) unlimited,
      )
