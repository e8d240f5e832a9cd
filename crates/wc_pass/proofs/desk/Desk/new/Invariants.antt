use Rattle.std.proofs.Common.{◌≡◌, ◌≤◌, true, [], vec_capacity, vec_len}
use Rattle.wc_pass.specs.Known.{new_passes}
use Rattle.wc_pass.proofs.desk.Desk.new.Given as goal

abbrev pub invariant-loop-made : goal.invariant-loop-made
invariant-loop-made l = record {
  seat : (l.seat.table_id ≡ l.desk) × (l.seat.me.0.pen ≡ true) × (l.seat.me.0.seen ≡ []) × (l.seat.me.0.session ≡ 0) × (l.seat.me.0.made ≡ l.made) × (l.seat.me.1 ≡ []);
  passes : l.passes.items ≡ new_passes l.desk l.made;
  count : vec_len l.passes ≡ l.made;
  room : l.fn.sessions ≤ vec_capacity l.passes;
}
