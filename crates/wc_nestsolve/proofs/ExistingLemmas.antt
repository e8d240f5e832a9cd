-- Tables, rounds, potentials and prices exist, with stated limits or without.
use Rattle.std.proofs.Common.{◌≡◌, ℕ, zero, suc, ◌==◌, ◌+◌, ◌*◌, ◌<◌, ◌≤◌, ◌^◌, ◌⊎◌, inl, inr, ℤ, pos, ◌*ℤ◌, List, [], map, length, replicate, set, slice_get, slice_index_or, Option, None, Some, Bool, true, false, refl, sym, ap, subst, ◌∙◌, arith, lit<}
use Rattle.std.specs.Prelude.{IfSome}
use Rattle.std.specs.List.{filter, range_with_len}
use Rattle.std.proofs.Math.IntN.{*ℤ-zero}
use Rattle.std.proofs.lemmas.Bool.{cases_lt}
use Rattle.std.proofs.lemmas.Int.{ints}
use Rattle.std.proofs.lemmas.List.{length-replicate}
use Rattle.std.proofs.lemmas.Option.{same_Some, slice_get_within}
use Rattle.wc_base.proofs.SumLemmas.{sum_zero}
use Rattle.wc_model.specs.declared.flow_system.System.{System}
use Rattle.wc_model.specs.declared.flow_system.SystemLoop.{SystemLoop}
use Rattle.wc_model.specs.declared.flow_system.SystemStep.{SystemStep}
use Rattle.wc_model.specs.declared.graphs.Nest.{Nest}
use Rattle.wc_model.specs.Flow.Certificates.{ArePrices, Prices, factor_of, scaled}
use Rattle.wc_model.specs.Flow.Systems.{is_marked}
use Rattle.wc_model.proofs.Places.{get_within}
use Rattle.wc_nestsolve.specs.declared.found.Found.{Found}
use Rattle.wc_nestsolve.specs.Inner.Nested.{IsStep, lies}
use Rattle.wc_nestsolve.specs.Inner.Orders.{IsDownOrder}
use Rattle.wc_nestsolve.specs.Inner.Passes.{AreClasses, AreRounds, IsRoundsPass, class_of, numbers}
use Rattle.wc_nestsolve.specs.Inner.Potentials.{IsPotential, after_loop, potential_of}
use Rattle.wc_nestsolve.specs.Inner.Raising.{settled}
use Rattle.wc_nestsolve.specs.Inner.Solvable.{IsSolvable}
use Rattle.wc_nestsolve.specs.Inner.Tables.{AreFillable, IsAmong, IsAttained, IsBestOf, IsFilled, better_of, charge, found_at, value_of_found, worth_of}
use Rattle.wc_nestsolve.proofs.BeginLemmas.{none_at, rounds_begin}
use Rattle.wc_nestsolve.proofs.BestLemmas.{better_new, better_one, better_up}
use Rattle.wc_nestsolve.proofs.CeilingLemmas.{room_below}
use Rattle.wc_nestsolve.proofs.EndLemmas.{first_potential, prices_hold}
use Rattle.wc_nestsolve.proofs.FillLemmas.{fill_begins, fill_more}
use Rattle.wc_nestsolve.proofs.ListedSums.{get_all}
use Rattle.wc_nestsolve.proofs.PotentialLemmas.{potential_after}
use Rattle.wc_nestsolve.proofs.RoomLemmas.{sum_total}
use Rattle.wc_nestsolve.proofs.RoundsLemmas.{class_from, class_into, round_done, round_fillable}
use Rattle.wc_nestsolve.proofs.SortingLemmas.{order_exists}
use Rattle.wc_nestsolve.proofs.TableLemmas.{table_inside}
use Rattle.wc_nestsolve.proofs.WeightLemmas.{same_by, test_same}

-- The best step of a node.
module _ (s : System) (nest : Nest) (goal : Option ℕ) (extra : List ℕ) (best : List (Option Found)) (p : ℕ) where
  -- among the first steps
  record IsBestTo (n : ℕ) (found : Option Found) : Type 0 where
    most : (i z : ℕ) (t : SystemStep) → i < n → IsStep s nest i t → t.source ≡ p → worth_of goal (is_marked nest i) t extra best ≡ Some z → (f : Found) × (found ≡ Some f) × (z ≤ f.value)
    attained : (f : Found) → found ≡ Some f → IsAttained s nest goal extra best p f

  best_to : (n : ℕ) → n ≤ length s.steps → (found : Option Found) × IsBestTo n found
  best_to zero low = (None, record { most = λ i z t less at from worth. absurd (omega arith); attained = λ f is. absurd (never f is) })
    where
      never : (f : Found) → None ≡ Some f → ⊥
      never f is = cc
  best_to (suc n) low = by (best_to n (omega arith)) (get_within s.steps n (omega arith))
    where
      by : (found : Option Found) × IsBestTo n found → (t : SystemStep) × IsStep s nest n t → (found : Option Found) × IsBestTo (suc n) found
      by (found, before) (t, at) = own (t.source == p) refl
        where
          worth : Option ℕ
          worth = worth_of goal (is_marked nest n) t extra best

          step_is : (i : ℕ) (r : SystemStep) → i ≡ n → IsStep s nest i r → r ≡ t
          step_is i r same at_r = same_Some r t (sym at_r ∙ ap (slice_get s.steps) same ∙ at)

          own : (b : Bool) → (t.source == p) ≡ b → (found : Option Found) × IsBestTo (suc n) found
          own false apart = (found, record { most = λ i z r less at_r from w. most i z r less at_r from w (cases_lt i n); attained = before.attained })
            where
              differ : (t.source == p) ≡ true → ⊥
              differ yes' = cc

              most : (i z : ℕ) (r : SystemStep) → i < suc n → IsStep s nest i r → r.source ≡ p → worth_of goal (is_marked nest i) r extra best ≡ Some z → (i < n) ⊎ (n ≤ i) → (f : Found) × (found ≡ Some f) × (z ≤ f.value)
              most i z r less at_r from w (inl lower) = before.most i z r lower at_r from w
              most i z r less at_r from w (inr high) = absurd (differ (test_same t.source p (sym (ap (λ x. x.source) (step_is i r (omega arith) at_r)) ∙ from)))
          own true here = (better_of found worth n, record { most = λ i z r less at_r from w. most i z r less at_r from w (cases_lt i n); attained = λ f is. attained f (better_one found worth n f is) })
            where
              most : (i z : ℕ) (r : SystemStep) → i < suc n → IsStep s nest i r → r.source ≡ p → worth_of goal (is_marked nest i) r extra best ≡ Some z → (i < n) ⊎ (n ≤ i)
                  → (f : Found) × (better_of found worth n ≡ Some f) × (z ≤ f.value)
              most i z r less at_r from w (inl lower) =
                  let old = before.most i z r lower at_r from w in
                  let up = better_up found worth n old.0 old.1 in
                  (up.0, up.1, omega (arith, old.2, up.2))
              most i z r less at_r from w (inr high) =
                  let same : i ≡ n = omega arith in
                  let mine : worth ≡ Some z = sym (ap (λ x. worth_of goal (is_marked nest n) x extra best) (step_is i r same at_r)) ∙ sym (ap (λ j. worth_of goal (is_marked nest j) r extra best) same) ∙ w in
                  let new = better_new found z n in
                  (new.0, ap (λ o. better_of found o n) mine ∙ new.1, new.2)

              attained : (f : Found) → (found ≡ Some f) ⊎ ((worth ≡ Some f.value) × (f.place ≡ n)) → IsAttained s nest goal extra best p f
              attained f (inl old) = before.attained f old
              attained f (inr (value, place)) = record {
                step = t;
                at = ap (slice_get s.steps) place ∙ at;
                source = same_by t.source p here;
                worth = ap (λ j. worth_of goal (is_marked nest j) t extra best) place ∙ value;
              }

  best_exists : (found : Option Found) × IsBestOf s nest goal p extra best found
  best_exists =
      let all = best_to (length s.steps) (omega arith) in
      (all.0, record { most = λ i z t at from worth. all.1.most i z t (slice_get_within s.steps i t at) at from worth; attained = all.1.attained })

-- a table of the best ways
filled_to : (s : System) (nest : Nest) (goal : Option ℕ) (extra nodes : List ℕ) → AreFillable s nest extra nodes → (n : ℕ) → n ≤ length nodes → (best : List (Option Found)) × IsFilled s nest goal extra nodes n best
filled_to s nest goal extra nodes are zero low = (replicate s.nodes None, fill_begins s nest goal extra nodes (replicate s.nodes None) (length-replicate s.nodes None) (none_at s.nodes))
filled_to s nest goal extra nodes are (suc n) low = by (filled_to s nest goal extra nodes are n (omega arith)) (get_within nodes n (omega arith))
  where
    by : (best : List (Option Found)) × IsFilled s nest goal extra nodes n best → (p : ℕ) × (slice_get nodes n ≡ Some p) → (best : List (Option Found)) × IsFilled s nest goal extra nodes (suc n) best
    by (best, old) (p, at) =
        let found = best_exists s nest goal extra best p in
        let one : n + 1 ≡ suc n = omega arith in
        (set best p found.0, subst (λ m. IsFilled s nest goal extra nodes m (set best p found.0)) one (fill_more s nest goal extra nodes are best n p at found.0 old found.1 (omega (arith, old.counted, are.known n p at))))

-- the classes
ranged_at : {X : Type 0} (f : ℕ → X) (d : X) (n a m : ℕ) → m < n → slice_index_or (map f (range_with_len a n)) m d ≡ f (a + m)
ranged_at f d zero a m less = absurd (omega arith)
ranged_at f d (suc n) a zero less = let same : a ≡ a + zero = omega arith in ap f same
ranged_at f d (suc n) a (suc m) less = let same : a + 1 + m ≡ a + suc m = omega arith in ranged_at f d n (a + 1) m (omega arith) ∙ ap f same

ranged_length : {X : Type 0} (f : ℕ → X) (n a : ℕ) → length (map f (range_with_len a n)) ≡ n
ranged_length f zero a = refl
ranged_length f (suc n) a = ap suc (ranged_length f n (a + 1))

module _ (nest : Nest) (s : System) (is : IsSolvable nest s) where
  order : List ℕ
  order = (order_exists nest s is).0

  of : IsDownOrder s nest order
  unfolding order
  of = (order_exists nest s is).1

  classes : List (List ℕ)
  classes = map (λ m. filter (lies nest m) order) (range_with_len 0 (length nest.heads))

  are : AreClasses nest order classes
  unfolding classes
  are = record {
    counted = ranged_length (λ m. filter (lies nest m) order) (length nest.heads) 0;
    each = λ m within. let same : 0 + m ≡ m = omega arith in ranged_at (λ k. filter (lies nest k) order) [] (length nest.heads) 0 m within ∙ ap (λ k. filter (lies nest k) order) same;
  }

  -- the rounds of the last loops
  rounds_to : (n k : ℕ) → k + n ≡ length s.loops → (extra : List ℕ) × (v : List ℕ) × IsRoundsPass s nest order classes k extra v (replicate s.nodes None)
  rounds_to zero k all =
      let whole : length s.loops ≡ k = omega (arith, all) in
      (replicate s.nodes 0, replicate (length s.loops) 0, subst (λ m. IsRoundsPass s nest order classes m (replicate s.nodes 0) (replicate (length s.loops) 0) (replicate s.nodes None)) whole (rounds_begin nest s is order classes))
  rounds_to (suc n) k all = by (rounds_to n (k + 1) (omega (arith, all))) (get_within s.loops k (omega (arith, all)))
    where
      by : (extra : List ℕ) × (v : List ℕ) × IsRoundsPass s nest order classes (k + 1) extra v (replicate s.nodes None) → (l : SystemLoop) × (slice_get s.loops k ≡ Some l)
          → (extra : List ℕ) × (v : List ℕ) × IsRoundsPass s nest order classes k extra v (replicate s.nodes None)
      by (extra, v, pass) (l, here) =
          let filled = filled_to s nest (Some l.head) extra (class_of classes k) (round_fillable nest s is order of classes are k l here extra v (replicate s.nodes None) pass (class_of classes k) refl) (length (class_of classes k)) (omega arith) in
          let round = value_of_found (found_at filled.0 l.head) in (
            set extra l.head (l.bound * round),
            set v k round,
            round_done nest s is order of classes are k l here extra v (replicate s.nodes None) pass filled.0 filled.1 round refl (set extra l.head (l.bound * round)) (set v k round) refl refl (replicate s.nodes None)
                (length-replicate s.nodes None ∙ sym filled.1.counted) (none_at s.nodes),
          )

  module _ (extra v : List ℕ) (rounds : AreRounds s nest order classes 0 extra v) where
    order_fillable : AreFillable s nest extra order
    order_fillable = record {
      down = of.down;
      known = of.known;
      room =
          let big : 2 ^ 100 < 2 ^ 127 = lit< tt in
          let below = room_below nest s is order of 0 (omega arith) in
          omega (arith, sum_total (charge s nest extra) order, rounds.roomy.whole, below, big);
    }

    sourced : (i : ℕ) (t : SystemStep) → IsStep s nest i t → t.source < s.nodes
    sourced i t at = get_all (λ x. x.source < s.nodes) s.steps i t at is.sound.sources

    targeted : (i q : ℕ) (t : SystemStep) → IsStep s nest i t → t.target ≡ Some q → q < s.nodes
    targeted i q t at to = subst (λ o. IfSome o (λ r. r < s.nodes)) to (get_all (λ x. IfSome x.target (λ r. r < s.nodes)) s.steps i t at is.sound.targets)

    potentials_to : (k : ℕ) → k ≤ length s.loops → (u : ℕ → Option ℤ) × IsPotential s nest (numbers v) k u
    potentials_to zero low =
        let filled = filled_to s nest None extra order order_fillable (length order) (omega arith) in
        (λ p. potential_of (found_at filled.0 p), first_potential s nest is.nested (numbers v) (IsAmong s nest order (length order)) extra filled.0 filled.1.table (λ i t at. among t.source (sourced i t at)) (λ q inside. rounds.charged q))
      where
        among : (p : ℕ) → p < s.nodes → IsAmong s nest order (length order) p
        among p known = let place = of.all p known in (place.0, slice_get_within order place.0 p place.1, place.1)
    potentials_to (suc k) low = by (potentials_to k (omega arith)) (get_within s.loops k (omega arith))
      where
        by : (u : ℕ → Option ℤ) × IsPotential s nest (numbers v) k u → (l : SystemLoop) × (slice_get s.loops k ≡ Some l) → (u : ℕ → Option ℤ) × IsPotential s nest (numbers v) (suc k) u
        by (u, old) (l, here) =
            let done = rounds.done k l here (omega arith) in
            let table = table_inside s nest (Some l.head) (IsAmong s nest (class_of classes k) (length (class_of classes k))) (λ p. (lies nest k p ≡ true) × (p < s.nodes)) extra done.best
            (λ p among. class_from nest s is order of classes are k l here (length (class_of classes k)) p among) (λ p inside. class_into nest s is order of classes are k l here p inside) done.table in
            let one : k + 1 ≡ suc k = omega arith in (
              λ p. after_loop (u l.head) (numbers v k) (lies nest k p) (u p) (found_at done.best p),
              subst (λ m. IsPotential s nest (numbers v) m (λ p. after_loop (u l.head) (numbers v k) (lies nest k p) (u p) (found_at done.best p))) one
                  (potential_after s nest is.nested (numbers v) sourced targeted k l here extra done.best table (λ q known. rounds.charged q) (ap pos (sym done.value)) u old),
            )

  -- prices of the loops and none of the limits
  pub prices_exist : (prices : Prices) × ArePrices s (scaled (pos 1)) prices × ((k : ℕ) → prices.w k ≡ pos 0)
  prices_exist =
      let found = rounds_to (length s.loops) 0 (omega arith) in
      let u = potentials_to found.0 found.1 found.2.rounds (length s.loops) (omega arith) in (
        record { u = λ p. settled (u.0 p); v = numbers found.1; w = λ k. pos 0 },
        prices_hold s nest is.nested (numbers found.1) u.0 u.1 (λ k. pos 0) is.sound is.ending (λ p. settled (u.0 p)) (λ k within. omega (arith, ints))
            (λ p. sum_zero (λ k l. factor_of p l.factors *ℤ pos 0) s.limits (λ k l at. *ℤ-zero (factor_of p l.factors))) (λ p z known at. ap settled at) (λ k. omega (arith, ints)),
        λ k. refl,
      )
