-- One loop of the last pass: what its calls need, and what they give.
use Rattle.std.proofs.Common.{◌≡◌, ℕ, ◌+◌, ◌*◌, ◌<◌, ◌≤◌, ◌^◌, ℤ, pos, neg_ℤ, ◌-ℤ◌, ◌≤ℤ◌, List, length, slice_index, slice_get, get_or, Option, Some, None, Bool, true, false, refl, sym, ap, ap₂, subst, ◌∙◌, arith, lit<}
use Rattle.std.proofs.Math.ListN.{get_or-eq_default}
use Rattle.std.proofs.lemmas.Int.{ints}
use Rattle.std.proofs.lemmas.List.{get_or_read}
use Rattle.std.proofs.lemmas.Option.{same_Some, slice_get_within}
use Rattle.wc_model.specs.declared.flow_system.System.{System}
use Rattle.wc_model.specs.declared.flow_system.SystemLoop.{SystemLoop}
use Rattle.wc_model.specs.declared.graphs.Nest.{Nest}
use Rattle.wc_nestsolve.specs.declared.found.Found.{Found}
use Rattle.wc_nestsolve.specs.declared.ways.Ways.{Ways}
use Rattle.wc_nestsolve.specs.Inner.LastPass.{ArePotentials, IsFilledFor}
use Rattle.wc_nestsolve.specs.Inner.Nested.{lies}
use Rattle.wc_nestsolve.specs.Inner.Passes.{class_of, numbers}
use Rattle.wc_nestsolve.specs.Inner.Potentials.{after_loop}
use Rattle.wc_nestsolve.specs.Inner.Raising.{AreBelow, AreRaisable, IsRaised, potential_at}
use Rattle.wc_nestsolve.specs.Inner.Tables.{IsAmong, found_at, value_of_found}
use Rattle.wc_nestsolve.specs.Inner.Ways.{AreWays}
use Rattle.wc_nestsolve.proofs.LastLemmas.{potentials_after}
use Rattle.wc_nestsolve.proofs.RoundsLemmas.{class_from, class_into, class_is, head_known, loop_within}
use Rattle.wc_nestsolve.proofs.ClassLemmas.{down_filter}

module _ (nest : Nest) (s : System) (w : Ways) (ways : AreWays s nest w) (place : ℕ) (v : List ℕ) (best : List (Option Found)) (f : IsFilledFor s nest w place v best) where
  abbrev class : List ℕ
  class = class_of w.classes.items place

  among : (p : ℕ) → (lies nest place p ≡ true) × (p < s.nodes) → IsAmong s nest class (length class) p
  among p inside = class_into nest s ways.solvable w.order.items ways.order w.classes.items ways.classes place f.own f.here p inside

  inside : (count p : ℕ) → IsAmong s nest class count p → (lies nest place p ≡ true) × (p < s.nodes)
  inside count p is = class_from nest s ways.solvable w.order.items ways.order w.classes.items ways.classes place f.own f.here count p is

  -- the round fits
  pub worth_small : slice_index v place < 2 ^ 100
  worth_small = by (found_at best f.own.head) refl
    where
      by : (o : Option Found) → found_at best f.own.head ≡ o → slice_index v place < 2 ^ 100
      by None at = omega (arith, f.value, ap value_of_found at)
      by (Some g) at = omega (arith, f.value, ap value_of_found at, f.small f.own.head g at)

  pub below : AreBelow best
  below p g at = let big : 2 ^ 100 < 2 ^ 101 = lit< tt in omega (arith, f.small p g at, big)

  module _ (value : ℤ) (u : List (Option ℤ)) (old : ArePotentials s nest v value place u) where
    pub raisable : AreRaisable class best u
    raisable = record {
      once = subst (λ xs. (i j p : ℕ) → slice_get xs i ≡ Some p → slice_get xs j ≡ Some p → i ≡ j) (sym (class_is nest s ways.solvable w.order.items ways.order w.classes.items ways.classes place f.own f.here))
          (down_filter s nest w.order.items ways.order.down (lies nest place)).once;
      known = λ i p at. omega (arith, f.tables.best_counted, (inside (length class) p (i, slice_get_within class i p at, at)).1);
      known_u = λ i p at. omega (arith, old.counted, (inside (length class) p (i, slice_get_within class i p at, at)).1);
    }

    after : (new : List (Option ℤ)) → length new ≡ length u
        → ((p : ℕ) → p < s.nodes → potential_at new p ≡ after_loop (potential_at u f.own.head) (numbers v place) (lies nest place p) (potential_at u p) (found_at best p)) → ArePotentials s nest v value (place + 1) new
    after new counted same = potentials_after s nest ways.solvable.nested ways.solvable.sound v value place f.own f.here f.extra best f.table f.charged f.value f.small u old new counted same
        (λ p out. get_or-eq_default new None (omega (arith, counted, old.counted)))

    pub raise_none : potential_at u f.own.head ≡ None → ArePotentials s nest v value (place + 1) u
    raise_none none = after u refl (λ p known. sym (ap (λ o. after_loop o (numbers v place) (lies nest place p) (potential_at u p) (found_at best p)) none))

    pub raise_some : (a : ℤ) → potential_at u f.own.head ≡ Some a → (new : List (Option ℤ)) → IsRaised class (length class) best (a -ℤ pos (slice_index v place)) u new → ArePotentials s nest v value (place + 1) new
    raise_some a head new raised = after new raised.counted (λ p known. by p known (lies nest place p) refl)
      where
        by : (p : ℕ) → p < s.nodes → (b : Bool) → lies nest place p ≡ b → potential_at new p ≡ after_loop (potential_at u f.own.head) (numbers v place) (lies nest place p) (potential_at u p) (found_at best p)
        by p known true in_k =
            let is = among p (in_k, known) in
            raised.inside is.0 p is.1 is.2 ∙ sym (ap₂ (λ o b. after_loop o (numbers v place) b (potential_at u p) (found_at best p)) head in_k)
        by p known false out =
            raised.outside p (λ j less at. never ((inside (length class) p (j, less, at)).0)) ∙ sym (ap₂ (λ o b. after_loop o (numbers v place) b (potential_at u p) (found_at best p)) head out)
          where
            never : lies nest place p ≡ true → ⊥
            never yes' = cc

    pub raise_done : (a : ℤ) → potential_at u f.own.head ≡ Some a → (new : List (Option ℤ)) (xs : List ℕ) (from : ℤ) → xs ≡ class → from ≡ a -ℤ pos (slice_index v place) → IsRaised xs (length xs) best from u new
        → ArePotentials s nest v value (place + 1) new
    raise_done a head new xs from same is raised =
        raise_some a head new (subst (λ z. IsRaised class (length class) best z u new) is (subst (λ ys. IsRaised ys (length ys) best from u new) same raised))

    -- the head as the code reads it
    pub head_at : (l : SystemLoop) → slice_get s.loops place ≡ Some l → (o : Option ℤ) → o ≡ get_or u l.head o → potential_at u f.own.head ≡ o
    head_at l at o read =
        let own : f.own ≡ l = same_Some f.own l (sym f.here ∙ at) in
        let known : l.head < s.nodes = subst (λ x. x.head < s.nodes) own (head_known nest s ways.solvable w.order.items ways.order w.classes.items ways.classes place f.own f.here) in
        ap (λ x. potential_at u x.head) own ∙ sym (get_or_read u l.head o (omega (arith, old.counted, known)) read None)

    few : place < 100000
    few = omega (arith, loop_within nest s ways.solvable w.order.items ways.order w.classes.items ways.classes place f.own f.here, ways.solvable.few, ways.solvable.loops_few)

    pub raise_low : (a : ℤ) → potential_at u f.own.head ≡ Some a → slice_index v place < 2 ^ 100 → neg_ℤ (pos (2 ^ 120)) ≤ℤ (a -ℤ pos (slice_index v place))
    raise_low a head small = let fits : (place + 1) * 2 ^ 100 + 2 ^ 100 ≤ 2 ^ 120 = omega (arith, few) in omega (arith, ints, old.low f.own.head a head, fits, small)

    pub raise_high : (a : ℤ) → potential_at u f.own.head ≡ Some a → (a -ℤ pos (slice_index v place)) ≤ℤ pos (2 ^ 120)
    raise_high a head = let fits : (place + 1) * 2 ^ 100 ≤ 2 ^ 120 = omega (arith, few) in omega (arith, ints, old.high f.own.head a head, fits)

    pub head_low : (a : ℤ) → potential_at u f.own.head ≡ Some a → neg_ℤ (pos (2 ^ 125)) ≤ℤ a
    head_low a head = let fits : (place + 1) * 2 ^ 100 ≤ 2 ^ 125 = omega (arith, few) in omega (arith, ints, old.low f.own.head a head, fits)

    pub head_high : (a : ℤ) → potential_at u f.own.head ≡ Some a → a ≤ℤ pos (2 ^ 125)
    head_high a head = let fits : (place + 1) * 2 ^ 100 ≤ 2 ^ 125 = omega (arith, few) in omega (arith, ints, old.high f.own.head a head, fits)
