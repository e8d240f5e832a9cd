-- The round of one loop more, from the innermost outwards.
use Rattle.std.proofs.Common.{◌≡◌, ℕ, zero, suc, ◌==◌, ◌+◌, ◌*◌, ◌<◌, ◌≤◌, ◌^◌, ◌⊎◌, inl, inr, pos, ◌+ℤ◌, ◌*ℤ◌, List, [], ◌∷◌, map, length, set, slice_index, slice_get, get_or, Option, Some, None, Bool, true, false, refl, sym, ap, subst, ◌∙◌, arith, lit<}
use Rattle.std.proofs.Math.IntN.{*ℤ-zero, pos-*ℤ-pos}
use Rattle.std.proofs.lemmas.Bool.{cases_eq}
use Rattle.std.proofs.lemmas.Int.{ints}
use Rattle.std.proofs.lemmas.List.{get_or-set_same, get_or-set_other, length-set, take_all}
use Rattle.std.proofs.lemmas.Option.{get_or_from_slice_get, same_Some, slice_get-get_or, slice_get_within}
use Rattle.std.specs.List.{filter, sum_by}
use Rattle.wc_base.specs.Sums.{chosen}
use Rattle.wc_base.proofs.SumLemmas.{sum_add, sum_pick, sum_same, sum_zero}
use Rattle.wc_model.specs.declared.flow_system.System.{System}
use Rattle.wc_model.specs.declared.flow_system.SystemLoop.{SystemLoop}
use Rattle.wc_model.specs.declared.flow_system.SystemStep.{SystemStep}
use Rattle.wc_model.specs.declared.graphs.Nest.{Nest}
use Rattle.wc_model.specs.Flow.Ceiling.{total}
use Rattle.wc_model.specs.Flow.Systems.{IsSystemLoop, is_marked}
use Rattle.wc_nestsolve.specs.declared.found.Found.{Found}
use Rattle.wc_nestsolve.specs.Inner.Nested.{IsLoop, IsStep, lies}
use Rattle.wc_nestsolve.specs.Inner.Orders.{IsDownOrder}
use Rattle.wc_nestsolve.specs.Inner.Passes.{AreClasses, HasRound, IsRoomy, IsRoundsPass, bounds_of, class_of, numbers, worth_in}
use Rattle.wc_nestsolve.specs.Inner.Tables.{AreFillable, IsAmong, IsClear, IsDownward, IsFilled, IsTable, charge, found_at, value_of_found}
use Rattle.wc_nestsolve.specs.Inner.Weights.{surcharge}
use Rattle.wc_nestsolve.specs.Inner.Solvable.{IsSolvable}
use Rattle.wc_nestsolve.proofs.CeilingLemmas.{part_le, part_once, room_below}
use Rattle.wc_nestsolve.proofs.ClassLemmas.{down_filter, filter_from, filter_into}
use Rattle.wc_nestsolve.proofs.ListedSums.{get_all}
use Rattle.wc_nestsolve.proofs.RoomLemmas.{room_more, sum_total}
use Rattle.wc_nestsolve.proofs.SmallLemmas.{part_of}
use Rattle.wc_nestsolve.proofs.TableLemmas.{table_moved}
use Rattle.wc_nestsolve.proofs.WeightLemmas.{same_by, test_apart, test_same}

module _ (nest : Nest) (s : System) (is : IsSolvable nest s) (order : List ℕ) (of : IsDownOrder s nest order) (classes : List (List ℕ)) (are : AreClasses nest order classes)
    (k : ℕ) (l : SystemLoop) (here : IsLoop s nest k l) where
  pub loop_within : k < length s.loops
  loop_within = slice_get_within s.loops k l here

  pub class_is : class_of classes k ≡ filter (lies nest k) order
  class_is = are.each k (omega (arith, loop_within, is.loops_counted))

  pub head_known : l.head < s.nodes
  head_known = (get_all (IsSystemLoop s) s.loops k l here is.sound.loops).head

  -- a node of the class
  pub class_from : (count p : ℕ) → IsAmong s nest (class_of classes k) count p → (lies nest k p ≡ true) × (p < s.nodes)
  class_from count p (j, less, at) =
      let from = filter_from (lies nest k) order j p (ap (λ xs. slice_get xs j) (sym class_is) ∙ at) in
      (from.0, of.known from.1.0 p from.1.1)

  pub class_into : (p : ℕ) → (lies nest k p ≡ true) × (p < s.nodes) → IsAmong s nest (class_of classes k) (length (class_of classes k)) p
  class_into p (inside, known) =
      let place = of.all p known in
      let into = filter_into (lies nest k) order place.0 p place.1 inside in
      let at : slice_get (class_of classes k) into.0 ≡ Some p = ap (λ xs. slice_get xs into.0) class_is ∙ into.1 in
      (into.0, slice_get_within (class_of classes k) into.0 p at, at)

  pub class_fillable : (extra : List ℕ) → total (charge s nest extra) (filter (lies nest k) order) < 2 ^ 127 → AreFillable s nest extra (class_of classes k)
  class_fillable extra room = record {
    down = subst (λ xs. IsDownward s nest xs) (sym class_is) (down_filter s nest order of.down (lies nest k));
    known = λ i p at. of.known (filter_from (lies nest k) order i p (ap (λ xs. slice_get xs i) (sym class_is) ∙ at)).1.0 p (filter_from (lies nest k) order i p (ap (λ xs. slice_get xs i) (sym class_is) ∙ at)).1.1;
    room = omega (arith, sum_total (charge s nest extra) (class_of classes k), ap (total (charge s nest extra)) class_is, room);
  }

  -- what the ways of a class add up to
  pub class_room : (extra : List ℕ) (count : ℕ) → count ≤ length s.loops → total (charge s nest extra) (filter (lies nest k) order) ≤ total (worth_in s nest count) (filter (lies nest k) order)
      → total (charge s nest extra) (filter (lies nest k) order) < 2 ^ 100
  class_room extra count low below =
      let part = part_le nest s is (worth_in s nest count) (lies nest k) order in
      let whole = room_below nest s is order of count low in
      omega (arith, below, part, whole)

  -- before the round is found
  pub round_fillable : (extra v : List ℕ) (first : List (Option Found)) → IsRoundsPass s nest order classes (k + 1) extra v first → (class : List ℕ) → class ≡ class_of classes k → AreFillable s nest extra class
  round_fillable extra v first old class same =
      let big : 2 ^ 100 < 2 ^ 127 = lit< tt in
      let room = class_room extra (k + 1) (omega (arith, loop_within)) (old.rounds.roomy.outer k (omega arith)) in
      subst (AreFillable s nest extra) (sym same) (class_fillable extra (omega (arith, big, room)))

  pub round_filled : (extra : List ℕ) (best : List (Option Found)) (extra' class : List ℕ) → extra' ≡ extra → class ≡ class_of classes k → IsFilled s nest (Some l.head) extra' class (length class) best
      → IsFilled s nest (Some l.head) extra (class_of classes k) (length (class_of classes k)) best
  round_filled extra best extra' class same_extra same filled =
      subst (λ xs. IsFilled s nest (Some l.head) xs (class_of classes k) (length (class_of classes k)) best) same_extra (subst (λ xs. IsFilled s nest (Some l.head) extra' xs (length xs) best) same filled)

  -- the round is found
  module _ (extra v : List ℕ) (first : List (Option Found)) (old : IsRoundsPass s nest order classes (k + 1) extra v first) (best : List (Option Found))
      (filled : IsFilled s nest (Some l.head) extra (class_of classes k) (length (class_of classes k)) best) where
    bound_is : slice_index (bounds_of s) k ≡ l.bound
    bound_is = get_or_from_slice_get (bounds_of s) k l.bound 0 (bound_at s.loops k here)
      where
        bound_at : (ls : List SystemLoop) (k : ℕ) → slice_get ls k ≡ Some l → slice_get (map (λ o. o.bound) ls) k ≡ Some l.bound
        bound_at [] k at = cc
        bound_at (x ∷ ls) zero at = ap (λ o. Some o.bound) (same_Some x l at)
        bound_at (x ∷ ls) (suc k) at = bound_at ls k at

    pub round_low : value_of_found (found_at best l.head) ≤ total (charge s nest extra) (filter (lies nest k) order)
    round_low = by (found_at best l.head) refl
      where
        by : (o : Option Found) → found_at best l.head ≡ o → value_of_found o ≤ total (charge s nest extra) (filter (lies nest k) order)
        by None at = omega arith
        by (Some f) at =
            let low = filled.low l.head f at in
            omega (
              arith,
              low,
              ap (sum_by (charge s nest extra)) (take_all (length (class_of classes k)) (class_of classes k) (omega arith)),
              sum_total (charge s nest extra) (class_of classes k),
              ap (total (charge s nest extra)) class_is,
            )

    pub round_small : value_of_found (found_at best l.head) < 2 ^ 100
    round_small = let room = class_room extra (k + 1) (omega (arith, loop_within)) (old.rounds.roomy.outer k (omega arith)) in omega (arith, round_low, room)

    -- the head has no surcharge yet
    pub none_yet : slice_index extra l.head ≡ 0
    none_yet =
        let nothing = sum_zero (λ m o. chosen (l.head == o.head) (pos o.bound *ℤ numbers v m)) s.loops (λ m o there. by m o there (l.head == o.head) refl) in
        omega (arith, ints, old.rounds.charged l.head, nothing)
      where
        by : (m : ℕ) (o : SystemLoop) → IsLoop s nest m o → (b : Bool) → (l.head == o.head) ≡ b → chosen b (pos o.bound *ℤ numbers v m) ≡ pos 0
        by m o there true same =
            let one : k ≡ m = is.nested.heads k m l o here there (same_by l.head o.head same) in
            ap (λ n. pos o.bound *ℤ pos n) (old.rounds.undone m (omega arith)) ∙ *ℤ-zero (pos o.bound)
        by m o there false apart = refl

    abbrev v_next : List ℕ
    v_next = set v k (value_of_found (found_at best l.head))

    abbrev extra_next : List ℕ
    extra_next = set extra l.head (l.bound * value_of_found (found_at best l.head))

    v_own : slice_index v_next k ≡ value_of_found (found_at best l.head)
    v_own = get_or-set_same v k (value_of_found (found_at best l.head)) 0 (omega (arith, old.counted, loop_within))

    v_other : (m : ℕ) → (m ≡ k → ⊥) → slice_index v_next m ≡ slice_index v m
    v_other m apart = get_or-set_other v k m (value_of_found (found_at best l.head)) 0 apart

    extra_own : slice_index extra_next l.head ≡ l.bound * value_of_found (found_at best l.head)
    extra_own = get_or-set_same extra l.head (l.bound * value_of_found (found_at best l.head)) 0 (omega (arith, old.tables.extra_counted, head_known))

    extra_other : (q : ℕ) → (q ≡ l.head → ⊥) → slice_index extra_next q ≡ slice_index extra q
    extra_other q apart = get_or-set_other extra l.head q (l.bound * value_of_found (found_at best l.head)) 0 apart

    surcharge_next : (q : ℕ) → surcharge s (numbers v_next) q ≡ surcharge s (numbers v) q +ℤ chosen (q == l.head) (pos l.bound *ℤ pos (value_of_found (found_at best l.head)))
    surcharge_next q =
        sum_same (λ m o. chosen (q == o.head) (pos o.bound *ℤ numbers v_next m))
        (λ m o. chosen (q == o.head) (pos o.bound *ℤ numbers v m) +ℤ chosen (k == m) (chosen (q == o.head) (pos o.bound *ℤ pos (value_of_found (found_at best l.head))))) s.loops
        (λ m o there. by m o (cases_eq m k) (q == o.head))
        ∙ sum_add (λ m o. chosen (q == o.head) (pos o.bound *ℤ numbers v m)) (λ m o. chosen (k == m) (chosen (q == o.head) (pos o.bound *ℤ pos (value_of_found (found_at best l.head))))) s.loops
        ∙ ap (λ z. surcharge s (numbers v) q +ℤ z) (sum_pick (λ m o. chosen (q == o.head) (pos o.bound *ℤ pos (value_of_found (found_at best l.head)))) s.loops k l here)
      where
        by : (m : ℕ) (o : SystemLoop) → (m ≡ k) ⊎ (m ≡ k → ⊥) → (b : Bool)
            → chosen b (pos o.bound *ℤ numbers v_next m) ≡ chosen b (pos o.bound *ℤ numbers v m) +ℤ chosen (k == m) (chosen b (pos o.bound *ℤ pos (value_of_found (found_at best l.head))))
        by m o (inl same) true =
            let new : slice_index v_next m ≡ value_of_found (found_at best l.head) = ap (slice_index v_next) same ∙ v_own in
            omega (
              arith,
              ints,
              ap (λ n. pos o.bound *ℤ pos n) new,
              ap (λ n. pos o.bound *ℤ pos n) (old.rounds.undone m (omega arith)),
              *ℤ-zero (pos o.bound),
              ap (λ b. chosen b (pos o.bound *ℤ pos (value_of_found (found_at best l.head)))) (test_same k m (sym same)),
            )
        by m o (inl same) false = omega (arith, ints, ap (λ b. chosen b (pos 0)) (test_same k m (sym same)))
        by m o (inr apart) b = omega (
          arith,
          ints,
          ap (λ n. chosen b (pos o.bound *ℤ pos n)) (v_other m apart),
          ap (λ c. chosen c (chosen b (pos o.bound *ℤ pos (value_of_found (found_at best l.head))))) (test_apart k m (λ same. apart (sym same))),
        )

    -- a step ahead into the head comes from outside
    unread : (m : ℕ) (o : SystemLoop) → IsLoop s nest m o → (n : ℕ) (t : SystemStep) → IsStep s nest n t → is_marked nest n ≡ false → t.target ≡ Some l.head → k ≤ m
        → lies nest m t.source ≡ true → lies nest m l.head ≡ true → ⊥
    unread m o there n t at ahead to low inside inside_head =
        let high : m ≤ k = is.nested.outer m k o l there here inside_head in
        let same : m ≡ k = omega arith in
        let out : lies nest k t.source ≡ false = is.nested.unmarked n k t l at here to ahead in
        let in_k : lies nest k t.source ≡ true = subst (λ j. lies nest j t.source ≡ true) same inside in
        cc

    among_lies : (m : ℕ) → m < length s.loops → (count p : ℕ) → IsAmong s nest (class_of classes m) count p → lies nest m p ≡ true
    among_lies m within count p (j, less, at) = (filter_from (lies nest m) order j p (ap (λ xs. slice_get xs j) (sym (are.each m (omega (arith, within, is.loops_counted)))) ∙ at)).0

    moved : (m : ℕ) (o : SystemLoop) → IsLoop s nest m o → k ≤ m → (table : List (Option Found)) → IsTable s nest (Some o.head) (IsAmong s nest (class_of classes m) (length (class_of classes m))) extra table
        → IsTable s nest (Some o.head) (IsAmong s nest (class_of classes m) (length (class_of classes m))) extra_next table
    moved m o there low table is_table =
        let within : m < length s.loops = slice_get_within s.loops m o there in
        table_moved s nest (Some o.head) (IsAmong s nest (class_of classes m) (length (class_of classes m))) extra extra_next table l.head extra_other
        (λ n t at ahead to inside inside_head. unread m o there n t at ahead to low (among_lies m within (length (class_of classes m)) t.source inside) (among_lies m within (length (class_of classes m)) l.head inside_head)) is_table

    done_next : (m : ℕ) (o : SystemLoop) → IsLoop s nest m o → k ≤ m → HasRound s nest classes extra_next v_next m o
    done_next m o there low = by (cases_eq m k)
      where
        by : (m ≡ k) ⊎ (m ≡ k → ⊥) → HasRound s nest classes extra_next v_next m o
        by (inl same) =
            let is_l : l ≡ o = same_Some l o (sym here ∙ ap (slice_get s.loops) (sym same) ∙ there) in
            let table : IsTable s nest (Some o.head) (IsAmong s nest (class_of classes m) (length (class_of classes m))) extra best =
            subst (λ x. IsTable s nest (Some x.head) (IsAmong s nest (class_of classes m) (length (class_of classes m))) extra best) is_l
            (subst (λ n. IsTable s nest (Some l.head) (IsAmong s nest (class_of classes n) (length (class_of classes n))) extra best) (sym same) filled.table) in
            record { best = best; table = moved m o there low best table; value = ap (slice_index v_next) same ∙ v_own ∙ ap (λ x. value_of_found (found_at best x.head)) is_l; small = omega (arith, ap (slice_index v_next) same, v_own, round_small) }
        by (inr apart) =
            let before = old.rounds.done m o there (omega arith) in
            record { best = before.best; table = moved m o there low before.best before.table; value = v_other m apart ∙ before.value; small = omega (arith, v_other m apart, before.small) }

    loops_below : (m : ℕ) → m < k → (o : SystemLoop) × IsLoop s nest m o
    loops_below m less = (get_or s.loops m l, slice_get-get_or s.loops m l (omega (arith, loop_within)))

    pub roomy_next : IsRoomy s nest order k extra_next
    roomy_next = room_more s nest is.nested order k l here extra extra_next (value_of_found (found_at best l.head)) loop_within bound_is extra_other
        (omega (arith, extra_own, none_yet)) of.down.once (λ test. part_once order test of.down.once) (λ test i p at. (filter_from test order i p at).0) round_low old.rounds.roomy loops_below

    -- the surcharge fits
    pub surcharge_low : l.bound * value_of_found (found_at best l.head) < 2 ^ 100
    surcharge_low =
        let whole = room_below nest s is order of k (omega (arith, loop_within)) in
        let place = of.all l.head head_known in
        let one = part_of (charge s nest extra_next) order place.0 l.head place.1 in
        omega (arith, whole, roomy_next.whole, one, extra_own)

    pub round_next : (last : List (Option Found)) → length last ≡ length best → IsClear last → IsRoundsPass s nest order classes k extra_next v_next last
    round_next last same clear = record {
      tables = record {
        sound = old.tables.sound;
        few = old.tables.few;
        marks = old.tables.marks;
        extra_counted = length-set extra l.head (l.bound * value_of_found (found_at best l.head)) ∙ old.tables.extra_counted;
        best_counted = same ∙ filled.counted;
      };
      clear = clear;
      counted = length-set v k (value_of_found (found_at best l.head)) ∙ old.counted;
      rounds = record {
        charged = λ q. charged_next q (cases_eq q l.head);
        undone = λ m less. v_other m (λ same'. absurd (omega arith)) ∙ old.rounds.undone m (omega arith);
        done = done_next;
        roomy = roomy_next;
      };
    }
      where
        charged_next : (q : ℕ) → (q ≡ l.head) ⊎ (q ≡ l.head → ⊥) → pos (slice_index extra_next q) ≡ surcharge s (numbers v_next) q
        charged_next q (inl same') =
            let value : slice_index extra_next q ≡ l.bound * value_of_found (found_at best l.head) = ap (slice_index extra_next) same' ∙ extra_own in
            let before : pos (slice_index extra q) ≡ pos 0 = ap (λ n. pos (slice_index extra n)) same' ∙ ap pos none_yet in
            omega (
              arith,
              ints,
              value,
              before,
              old.rounds.charged q,
              surcharge_next q,
              ap (λ b. chosen b (pos l.bound *ℤ pos (value_of_found (found_at best l.head)))) (test_same q l.head same'),
              pos-*ℤ-pos l.bound (value_of_found (found_at best l.head)),
            )
        charged_next q (inr apart) = omega (
          arith,
          ints,
          extra_other q apart,
          old.rounds.charged q,
          surcharge_next q,
          ap (λ b. chosen b (pos l.bound *ℤ pos (value_of_found (found_at best l.head)))) (test_apart q l.head apart),
        )

    -- as the code has it
    pub round_done : (round : ℕ) → round ≡ value_of_found (found_at best l.head) → (extra' v' : List ℕ) → v' ≡ set v k round → extra' ≡ set extra l.head (l.bound * round) → (last : List (Option Found)) → length last ≡ length best → IsClear last
        → IsRoundsPass s nest order classes k extra' v' last
    round_done round is extra' v' v_is extra_is last same clear =
        subst (λ xs. IsRoundsPass s nest order classes k extra' xs last) (sym (v_is ∙ ap (set v k) is))
        (subst (λ xs. IsRoundsPass s nest order classes k xs v_next last) (sym (extra_is ∙ ap (λ n. set extra l.head (l.bound * n)) is)) (round_next last same clear))
