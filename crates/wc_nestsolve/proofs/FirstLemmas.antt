-- The last pass begins with the ways to the exit.
use Rattle.std.proofs.Common.{◌≡◌, ℕ, zero, suc, ◌==◌, ◌+◌, ◌*◌, ◌<◌, ◌^◌, ℤ, pos, neg_ℤ, ◌≤ℤ◌, List, [], ◌∷◌, map, length, slice_index, Option, Some, None, Bool, true, false, refl, sym, ap, subst, ◌∙◌, arith, lit<}
use Rattle.std.proofs.lemmas.Int.{ints}
use Rattle.std.proofs.lemmas.List.{length-map, take_all}
use Rattle.std.proofs.lemmas.Option.{slice_get_within}
use Rattle.std.specs.List.{sum_by}
use Rattle.wc_base.specs.Sums.{chosen}
use Rattle.wc_model.specs.declared.flow_system.System.{System}
use Rattle.wc_model.specs.declared.flow_system.SystemStep.{SystemStep}
use Rattle.wc_model.specs.declared.graphs.Nest.{Nest}
use Rattle.wc_model.specs.Flow.SystemWalks.{visits}
use Rattle.wc_nestsolve.specs.declared.found.Found.{Found}
use Rattle.wc_nestsolve.specs.declared.ways.Ways.{Ways}
use Rattle.wc_nestsolve.specs.Inner.Adding.{AreWalkable, IsAdded}
use Rattle.wc_nestsolve.specs.Inner.LastPass.{AreCounts, ArePotentials}
use Rattle.wc_nestsolve.specs.Inner.Nested.{IsStep}
use Rattle.wc_nestsolve.specs.Inner.Passes.{AreRounds, numbers}
use Rattle.wc_nestsolve.specs.Inner.Potentials.{potential_of}
use Rattle.wc_nestsolve.specs.Inner.Raising.{AreBelow, potential_at}
use Rattle.wc_nestsolve.specs.Inner.Tables.{IsAmong, IsFilled, charge, found_at}
use Rattle.wc_nestsolve.specs.Inner.Trails.{IsTrail, walk_from}
use Rattle.wc_nestsolve.specs.Inner.Ways.{AreWays}
use Rattle.wc_nestsolve.proofs.AddingLemmas.{trail_places}
use Rattle.wc_nestsolve.proofs.CeilingLemmas.{order_few}
use Rattle.wc_nestsolve.proofs.CountLemmas.{flow_same, visits_listed}
use Rattle.wc_nestsolve.proofs.EndLemmas.{first_potential}
use Rattle.wc_nestsolve.proofs.LastLemmas.{potential_same, start_found}
use Rattle.wc_nestsolve.proofs.ListedSums.{chosen_linear, get_all}
use Rattle.wc_nestsolve.proofs.PassLemmas.{whole_room}
use Rattle.wc_nestsolve.proofs.RoomLemmas.{sum_total}
use Rattle.wc_nestsolve.proofs.SeenLemmas.{leaves_once, trail_once}
use Rattle.wc_nestsolve.proofs.TrailLemmas.{trail_linear, walk_trail, way_flow}
use Rattle.wc_base.proofs.SumLemmas.{sum_same}
use Rattle.std.specs.Prelude.{All, if◌then◌else◌}
use Rattle.wc_model.specs.Flow.Places.{IsOnce, is_listed}

module _ (nest : Nest) (s : System) (w : Ways) (ways : AreWays s nest w) (extra v : List ℕ) (rounds : AreRounds s nest w.order.items w.classes.items 0 extra v) (best : List (Option Found))
    (filled : IsFilled s nest None extra w.order.items (length w.order.items) best) where
  abbrev Inside : ℕ → Type 0
  Inside p = IsAmong s nest w.order.items (length w.order.items) p

  all : (i : ℕ) (t : SystemStep) → IsStep s nest i t → Inside t.source
  all i t at =
      let place = ways.order.all t.source (get_all (λ x. x.source < s.nodes) s.steps i t at ways.solvable.sound.sources) in
      (place.0, slice_get_within w.order.items place.0 t.source place.1, place.1)

  pub way : (f : Found) × (found_at best s.start ≡ Some f)
  way = start_found s nest ways.solvable.nested Inside extra best filled.table all (ways.solvable.ending s.start ways.solvable.sound.start)

  pub first_small : (p : ℕ) (f : Found) → found_at best p ≡ Some f → f.value < 2 ^ 100
  first_small p f at = omega (
    arith,
    filled.low p f at,
    ap (sum_by (charge s nest extra)) (take_all (length w.order.items) w.order.items (omega arith)),
    sum_total (charge s nest extra) w.order.items,
    whole_room nest s w ways extra v rounds,
  )

  pub first_below : AreBelow best
  first_below p f at = let big : 2 ^ 100 < 2 ^ 101 = lit< tt in omega (arith, first_small p f at, big)

  pub first_walkable : AreWalkable s nest best
  first_walkable = record {
    sound = ways.solvable.sound;
    marks = ways.solvable.marks;
    counted = filled.counted;
    placed = λ p g at. let step = filled.table.attained p g at in slice_get_within s.steps g.place step.step step.at;
  }

  -- the walk of the start
  pub first_trail : (f : Found) → found_at best s.start ≡ Some f → (walk : List ℕ) → walk ≡ walk_from s nest best s.nodes (Some s.start) → IsTrail s nest None Inside extra s.start walk f.value
  first_trail f at walk is =
      let place = ways.order.all s.start ways.solvable.sound.start in
      subst (λ y. IsTrail s nest None Inside extra s.start y f.value) (sym is)
      (walk_trail s nest None Inside extra w.order.items best ways.order.down (λ p among. (among.0, among.2)) filled.table s.nodes place.0 s.start f
      (omega (arith, slice_get_within w.order.items place.0 s.start place.1, order_few nest s ways.solvable w.order.items ways.order)) place.1 at)

  pub first_places : (walk : List ℕ) → walk ≡ walk_from s nest best s.nodes (Some s.start) → All (λ i. i < length s.steps) walk
  first_places walk is = trail_places s nest None Inside extra s.start way.0.value walk (first_trail way.0 way.1 walk is)

  pub first_once : (walk : List ℕ) → walk ≡ walk_from s nest best s.nodes (Some s.start) → IsOnce walk
  first_once walk is = trail_once s nest None Inside extra w.order.items ways.order.down (λ q among. (among.0, among.2)) s.start way.0.value walk (first_trail way.0 way.1 walk is)

  mapped : (xs : List (Option Found)) (p : ℕ) → potential_at (map potential_of xs) p ≡ potential_of (found_at xs p)
  mapped [] p = refl
  mapped (x ∷ xs) zero = refl
  mapped (x ∷ xs) (suc p) = mapped xs p

  pub first_potentials : (u : List (Option ℤ)) → u ≡ map potential_of best → (f : Found) → found_at best s.start ≡ Some f → ArePotentials s nest v (pos f.value) 0 u
  first_potentials u is f at = record {
    counted = ap length is ∙ length-map best potential_of ∙ filled.counted;
    met = potential_same s nest (numbers v) 0 ways.solvable.sound (λ p. potential_of (found_at best p)) (potential_at u) (λ p known. sym (same p))
        (first_potential s nest ways.solvable.nested (numbers v) Inside extra best filled.table all (λ q inside. rounds.charged q));
    at_start = same s.start ∙ ap potential_of at;
    low = λ p z there. (near p z (found_at best p) refl (sym (same p) ∙ there)).0;
    high = λ p z there. (near p z (found_at best p) refl (sym (same p) ∙ there)).1;
  }
    where
      same : (p : ℕ) → potential_at u p ≡ potential_of (found_at best p)
      same p = ap (λ xs. potential_at xs p) is ∙ mapped best p

      near : (p : ℕ) (z : ℤ) (o : Option Found) → found_at best p ≡ o → potential_of o ≡ Some z → (neg_ℤ (pos ((0 + 1) * 2 ^ 100)) ≤ℤ z) × (z ≤ℤ pos ((0 + 1) * 2 ^ 100))
      near p z None there gives = cc
      near p z (Some g) there gives = let value : pos g.value ≡ z = one (pos g.value) z gives in (omega (arith, ints, value), omega (arith, ints, value, first_small p g there))
        where
          one : (x y : ℤ) → Some x ≡ Some y → x ≡ y
          one x y same' = cc

  -- the way of the start
  pub first_counts : (f : Found) → found_at best s.start ≡ Some f → (walk x new : List ℕ) → walk ≡ walk_from s nest best s.nodes (Some s.start) → length x ≡ length s.steps → ((i : ℕ) → slice_index x i ≡ 0)
      → IsAdded walk 1 x new → AreCounts s nest v (pos f.value) 0 new
  first_counts f at walk x new is counted zeros added = made (first_trail f at walk is)
    where
      made : IsTrail s nest None Inside extra s.start walk f.value → AreCounts s nest v (pos f.value) 0 new
      made trail = record {
        counted = added.counted ∙ counted;
        flow = flow_same s nest (numbers v) 0 (pos f.value) (visits walk) (numbers new) same (way_flow s nest ways.solvable.nested ways.solvable.sound (numbers v) Inside extra (λ q inside. rounds.charged q) f.value walk trail);
        come = λ k l there less. absurd (omega arith);
        seen = λ p known. omega (
          arith,
          ints,
          sum_same (λ i t. chosen (t.source == p) (visits walk i)) (λ i t. chosen (t.source == p) (numbers new i)) s.steps (λ i t here. ap (chosen (t.source == p)) (same i)),
          chosen_linear (λ i t. t.source == p) s.steps (visits walk),
          trail_linear s nest None Inside extra (λ i t. chosen (t.source == p) (pos 1)) s.start f.value walk trail,
          leaves_once s nest None Inside extra w.order.items ways.order.down (λ q among. (among.0, among.2)) p s.start f.value walk trail,
        );
      }
        where
          once : IsOnce walk
          once = first_once walk is

          same : (i : ℕ) → visits walk i ≡ numbers new i
          same i = omega (arith, ints, visits_listed walk i once, added.each i, zeros i, by (is_listed i walk))
            where
              by : (b : Bool) → chosen b (pos 1) ≡ pos (if b then 1 else 0)
              by true = refl
              by false = refl
