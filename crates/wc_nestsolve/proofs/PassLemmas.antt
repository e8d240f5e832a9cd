-- What the tables of the last pass are.
use Rattle.std.proofs.Common.{◌≡◌, ℕ, ◌<◌, ◌^◌, List, length, Option, Some, true, sym, ap, subst, ◌∙◌, arith, lit<}
use Rattle.std.proofs.lemmas.List.{take_all}
use Rattle.std.specs.List.{filter, sum_by}
use Rattle.wc_model.specs.declared.flow_system.System.{System}
use Rattle.wc_model.specs.declared.flow_system.SystemLoop.{SystemLoop}
use Rattle.wc_model.specs.declared.graphs.Nest.{Nest}
use Rattle.wc_model.specs.Flow.Ceiling.{total}
use Rattle.wc_nestsolve.specs.declared.found.Found.{Found}
use Rattle.wc_nestsolve.specs.declared.ways.Ways.{Ways}
use Rattle.wc_nestsolve.specs.Inner.LastPass.{IsFilledFor}
use Rattle.wc_nestsolve.specs.Inner.Nested.{IsLoop, lies}
use Rattle.wc_nestsolve.specs.Inner.Passes.{AreRounds, class_of}
use Rattle.wc_nestsolve.specs.Inner.Tables.{AreFillable, AreTables, IsAmong, IsFilled, charge}
use Rattle.wc_nestsolve.specs.Inner.Ways.{AreWays}
use Rattle.wc_nestsolve.proofs.CeilingLemmas.{part_le, room_below}
use Rattle.wc_nestsolve.proofs.RoomLemmas.{sum_total}
use Rattle.wc_nestsolve.proofs.RoundsLemmas.{class_fillable, class_from, class_into, class_is}
use Rattle.wc_nestsolve.proofs.TableLemmas.{table_inside, table_same}

module _ (nest : Nest) (s : System) (w : Ways) (ways : AreWays s nest w) (extra v : List ℕ) (rounds : AreRounds s nest w.order.items w.classes.items 0 extra v) where
  -- all nodes add less than the ceiling
  pub whole_room : total (charge s nest extra) w.order.items < 2 ^ 100
  whole_room = let below = room_below nest s ways.solvable w.order.items ways.order 0 (omega arith) in omega (arith, below, rounds.roomy.whole)

  pub order_fillable : AreFillable s nest extra w.order.items
  order_fillable = record {
    down = ways.order.down;
    known = ways.order.known;
    room = let big : 2 ^ 100 < 2 ^ 127 = lit< tt in omega (arith, sum_total (charge s nest extra) w.order.items, whole_room, big);
  }

  module _ (k : ℕ) (l : SystemLoop) (here : IsLoop s nest k l) where
    part_room : total (charge s nest extra) (filter (lies nest k) w.order.items) < 2 ^ 100
    part_room = let part = part_le nest s ways.solvable (charge s nest extra) (lies nest k) w.order.items in omega (arith, part, whole_room)

    pub last_fillable : AreFillable s nest extra (class_of w.classes.items k)
    last_fillable = class_fillable nest s ways.solvable w.order.items ways.order w.classes.items ways.classes k l here extra (let big : 2 ^ 100 < 2 ^ 127 = lit< tt in omega (arith, part_room, big))

    pub filled_for : (best : List (Option Found)) → AreTables s nest extra best → length v ≡ length s.loops
        → IsFilled s nest (Some l.head) extra (class_of w.classes.items k) (length (class_of w.classes.items k)) best → IsFilledFor s nest w k v best
    filled_for best tables counted filled = record {
      own = l;
      here = here;
      extra = extra;
      tables = tables;
      counted = counted;
      charged = rounds.charged;
      table = table_inside s nest (Some l.head) (IsAmong s nest (class_of w.classes.items k) (length (class_of w.classes.items k))) (λ p. (lies nest k p ≡ true) × (p < s.nodes)) extra best
          (λ p among. class_from nest s ways.solvable w.order.items ways.order w.classes.items ways.classes k l here (length (class_of w.classes.items k)) p among)
          (λ p inside. class_into nest s ways.solvable w.order.items ways.order w.classes.items ways.classes k l here p inside) filled.table;
      value =
          let before = rounds.done k l here (omega arith) in
          table_same s nest (Some l.head) extra (class_of w.classes.items k) last_fillable.down (IsAmong s nest (class_of w.classes.items k) (length (class_of w.classes.items k)))
          (λ p among. (among.0, among.2)) best before.best filled.table before.table l.head ∙ sym before.value;
      small = λ p f at. omega (
        arith,
        filled.low p f at,
        ap (sum_by (charge s nest extra)) (take_all (length (class_of w.classes.items k)) (class_of w.classes.items k) (omega arith)),
        sum_total (charge s nest extra) (class_of w.classes.items k),
        ap (total (charge s nest extra)) (class_is nest s ways.solvable w.order.items ways.order w.classes.items ways.classes k l here),
        part_room,
      );
    }

    -- the table that a turn fills
    pub turn_table : (old best : List (Option Found)) → AreTables s nest extra old → length v ≡ length s.loops → (class : List ℕ) → class ≡ class_of w.classes.items k
        → IsFilled s nest (Some l.head) extra class (length class) best → IsFilledFor s nest w k v best
    turn_table old best tables counted class same filled =
        let is = subst (λ xs. IsFilled s nest (Some l.head) extra xs (length xs) best) same filled in
        filled_for best (record { sound = tables.sound; few = tables.few; marks = tables.marks; extra_counted = tables.extra_counted; best_counted = is.counted }) counted is

    pub turn_fillable : (class : List ℕ) → class ≡ class_of w.classes.items k → AreFillable s nest extra class
    turn_fillable class same = subst (AreFillable s nest extra) (sym same) last_fillable
