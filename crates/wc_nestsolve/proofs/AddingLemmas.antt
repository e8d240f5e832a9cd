-- The rounds of one loop are counted: what fits, and what the counts are.
use Rattle.std.proofs.Common.{◌≡◌, ℕ, zero, suc, ◌+◌, ◌*◌, ◌<◌, ◌≤◌, ◌^◌, ℤ, List, [], ◌∷◌, map, length, slice_index, slice_get, get_or, Option, Some, None, true, refl, sym, ap, subst, ◌∙◌, arith, lit<}
use Rattle.std.proofs.lemmas.Option.{get_or_from_slice_get, same_Some, slice_get-get_or, slice_get_within}
use Rattle.std.specs.Prelude.{All}
use Rattle.std.specs.List.{sum_by}
use Rattle.wc_model.specs.declared.flow_system.System.{System}
use Rattle.wc_model.specs.declared.flow_system.SystemLoop.{SystemLoop}
use Rattle.wc_model.specs.declared.graphs.Nest.{Nest}
use Rattle.wc_model.specs.Flow.Places.{IsOnce}
use Rattle.wc_nestsolve.specs.declared.found.Found.{Found}
use Rattle.wc_nestsolve.specs.declared.ways.Ways.{Ways}
use Rattle.wc_nestsolve.specs.Inner.Adding.{AreRoomy, AreWalkable, IsAdded, entered_times}
use Rattle.wc_nestsolve.specs.Inner.LastPass.{AreCounts, IsFilledFor}
use Rattle.wc_nestsolve.specs.Inner.Nested.{IsLoop, lies}
use Rattle.wc_nestsolve.specs.Inner.Passes.{bounds_of, class_of, rounds_in}
use Rattle.wc_nestsolve.specs.Inner.Tables.{IsDownward, found_at, value_of_found}
use Rattle.wc_nestsolve.specs.Inner.Trails.{IsTrail, ends, goes, walk_from}
use Rattle.wc_nestsolve.specs.Inner.Ways.{AreWays}
use Rattle.wc_nestsolve.proofs.ClassLemmas.{down_filter}
use Rattle.wc_nestsolve.proofs.CountLemmas.{counts_after, counts_skip, entered_low, rounds_fit}
use Rattle.wc_nestsolve.proofs.RoundsLemmas.{class_into, class_is, head_known, loop_within}
use Rattle.wc_nestsolve.proofs.SeenLemmas.{trail_once}
use Rattle.wc_nestsolve.proofs.SmallLemmas.{count_small, prefix_small}
use Rattle.wc_nestsolve.proofs.TrailLemmas.{walk_trail}

-- the places of a way are steps
pub trail_places : (s : System) (nest : Nest) (goal : Option ℕ) (Inside : ℕ → Type 0) (extra : List ℕ) (p z : ℕ) (walk : List ℕ) → IsTrail s nest goal Inside extra p walk z → All (λ i. i < length s.steps) walk
trail_places s nest goal Inside extra p z walk (ends i t at inside to marked) = one i (slice_get_within s.steps i t at)
  where
    one : (i : ℕ) → i < length s.steps → All (λ n. n < length s.steps) (i ∷ [])
    one i known zero d within = known
    one i known (suc k) d within = absurd (omega arith)
trail_places s nest goal Inside extra p z walk (goes i q y t rest at inside ahead to more) = cons i rest (slice_get_within s.steps i t at) (trail_places s nest goal Inside extra q y rest more)
  where
    cons : (i : ℕ) (is : List ℕ) → i < length s.steps → All (λ n. n < length s.steps) is → All (λ n. n < length s.steps) (i ∷ is)
    cons i is known all zero d within = known
    cons i is known all (suc k) d within = all k d (omega arith)

module _ (nest : Nest) (s : System) (w : Ways) (ways : AreWays s nest w) (place : ℕ) (v : List ℕ) (best : List (Option Found)) (f : IsFilledFor s nest w place v best)
    (value : ℤ) (x : List ℕ) (old : AreCounts s nest v value place x) where
  abbrev Inside : ℕ → Type 0
  Inside p = (lies nest place p ≡ true) × (p < s.nodes)

  abbrev class : List ℕ
  class = class_of w.classes.items place

  within : place < length s.loops
  within = loop_within nest s ways.solvable w.order.items ways.order w.classes.items ways.classes place f.own f.here

  known : f.own.head < s.nodes
  known = head_known nest s ways.solvable w.order.items ways.order w.classes.items ways.classes place f.own f.here

  down : IsDownward s nest class
  down = subst (λ xs. IsDownward s nest xs) (sym (class_is nest s ways.solvable w.order.items ways.order w.classes.items ways.classes place f.own f.here)) (down_filter s nest w.order.items ways.order.down (lies nest place))

  stands : (p : ℕ) → Inside p → (j : ℕ) × (slice_get class j ≡ Some p)
  stands p inside = let is = class_into nest s ways.solvable w.order.items ways.order w.classes.items ways.classes place f.own f.here p inside in (is.0, is.2)

  bound_is : slice_index (bounds_of s) place ≡ f.own.bound
  bound_is = get_or_from_slice_get (bounds_of s) place f.own.bound 0 (at s.loops place f.here)
    where
      at : (ls : List SystemLoop) (k : ℕ) → slice_get ls k ≡ Some f.own → slice_get (map (λ o. o.bound) ls) k ≡ Some f.own.bound
      at [] k is = cc
      at (y ∷ ls) zero is = let same : y ≡ f.own = cc in ap (λ o. Some o.bound) same
      at (y ∷ ls) (suc k) is = at ls k is

  loops : (m : ℕ) → m < place → (o : SystemLoop) × IsLoop s nest m o
  loops m less = (get_or s.loops m f.own, slice_get-get_or s.loops m f.own (omega (arith, within)))

  pub walkable : AreWalkable s nest best
  walkable = record {
    sound = ways.solvable.sound;
    marks = ways.solvable.marks;
    counted = f.tables.best_counted;
    placed = λ p g at. let step = f.table.attained p g at in slice_get_within s.steps g.place step.step step.at;
  }

  -- the walk of a round
  pub round_trail : 0 < slice_index v place → (walk : List ℕ) → walk ≡ walk_from s nest best (length class) (Some f.own.head) → IsTrail s nest (Some f.own.head) Inside f.extra f.own.head walk (slice_index v place)
  round_trail some walk is = by (found_at best f.own.head) refl
    where
      by : (o : Option Found) → found_at best f.own.head ≡ o → IsTrail s nest (Some f.own.head) Inside f.extra f.own.head walk (slice_index v place)
      by None at = absurd (omega (arith, f.value, ap value_of_found at))
      by (Some g) at =
          let place_of = stands f.own.head (ways.solvable.nested.inside place f.own f.here, known) in
          let trail = walk_trail s nest (Some f.own.head) Inside f.extra class best down stands f.table (length class) place_of.0 f.own.head g (slice_get_within class place_of.0 f.own.head place_of.1) place_of.1 at in
          subst (λ z. IsTrail s nest (Some f.own.head) Inside f.extra f.own.head walk z) (sym (ap value_of_found at) ∙ f.value)
          (subst (λ ys. IsTrail s nest (Some f.own.head) Inside f.extra f.own.head ys g.value) (sym is) trail)

  pub walk_once : 0 < slice_index v place → (walk : List ℕ) → walk ≡ walk_from s nest best (length class) (Some f.own.head) → IsOnce walk
  walk_once some walk is = trail_once s nest (Some f.own.head) Inside f.extra class down stands f.own.head (slice_index v place) walk (round_trail some walk is)

  pub walk_places : 0 < slice_index v place → (walk : List ℕ) → walk ≡ walk_from s nest best (length class) (Some f.own.head) → All (λ i. i < length x) walk
  walk_places some walk is = subst (λ n. All (λ i. i < n) walk) (sym old.counted) (trail_places s nest (Some f.own.head) Inside f.extra f.own.head (slice_index v place) walk (round_trail some walk is))

  pub rounds_added : 0 < slice_index v place → (walk new : List ℕ) → walk ≡ walk_from s nest best (length class) (Some f.own.head) → IsAdded walk (f.own.bound * entered_times f.own s.start x) x new → AreCounts s nest v value (place + 1) new
  rounds_added some walk new is added = counts_after s nest ways.solvable.nested ways.solvable.sound v value place f.own f.here loops bound_is known x old f.extra class down stands f.charged (slice_index v place) walk refl (round_trail some walk is) new added

  pub rounds_skipped : slice_index v place ≡ 0 → AreCounts s nest v value (place + 1) x
  rounds_skipped none = counts_skip s nest ways.solvable.nested ways.solvable.sound v value place f.own f.here loops bound_is known x old none

  pub entries_low : entered_times f.own s.start x ≤ rounds_in nest (bounds_of s) 0 place f.own.head
  entries_low = entered_low s nest ways.solvable.nested ways.solvable.sound v value place f.own f.here loops bound_is known x old

  pub times_low : f.own.bound * entered_times f.own s.start x ≤ rounds_in nest (bounds_of s) 0 (place + 1) f.own.head
  times_low = rounds_fit s nest ways.solvable.nested ways.solvable.sound v value place f.own f.here loops bound_is known x old

  -- what the code adds and multiplies fits
  module _ (l : SystemLoop) (at : slice_get s.loops place ≡ Some l) where
    own_is : f.own ≡ l
    own_is = same_Some f.own l (sym f.here ∙ at)

    pub entries_fit : sum_by (slice_index x) l.entry < 2 ^ 127
    entries_fit =
        let big : 2 ^ 100 < 2 ^ 127 = lit< tt in
        omega (arith, big, entries_low, prefix_small nest s ways.solvable w.order.items ways.order place f.own.head (omega (arith, within)) known, ap (λ o. sum_by (slice_index x) o.entry) own_is)

    pub times_small : l.bound * entered_times l s.start x < 2 ^ 100
    times_small = omega (arith, times_low, prefix_small nest s ways.solvable w.order.items ways.order (place + 1) f.own.head (omega (arith, within)) known, ap (λ o. o.bound * entered_times o s.start x) own_is)

    pub rooms : (times : ℕ) → times ≡ l.bound * entered_times l s.start x → AreRoomy times x
    rooms times is k inside =
        let big : 2 ^ 101 < 2 ^ 127 = lit< tt in
        let twice : 2 ^ 101 ≡ 2 ^ 100 + 2 ^ 100 = omega arith in
        omega (arith, big, twice, is, times_small, count_small nest s ways.solvable w.order.items ways.order v value place x old (omega (arith, within)) k inside)

    pub way_is : (walk : List ℕ) (class' : List ℕ) → class' ≡ class → walk ≡ walk_from s nest best (length class') (Some l.head) → walk ≡ walk_from s nest best (length class) (Some f.own.head)
    way_is walk class' same is = is ∙ ap (λ xs. walk_from s nest best (length xs) (Some l.head)) same ∙ sym (ap (λ o. walk_from s nest best (length class) (Some o.head)) own_is)

    pub added_is : (walk new : List ℕ) (times : ℕ) → times ≡ l.bound * entered_times l s.start x → IsAdded walk times x new → IsAdded walk (f.own.bound * entered_times f.own s.start x) x new
    added_is walk new times is added = subst (λ n. IsAdded walk n x new) (is ∙ sym (ap (λ o. o.bound * entered_times o s.start x) own_is)) added
