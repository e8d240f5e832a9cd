use Rattle.std.proofs.Common.{◌+◌, sym, subst, arith}
use Rattle.wc_nestsolve.specs.Inner.LastPass.{AreCounts, IsFilledFor}
use Rattle.wc_nestsolve.proofs.AddingLemmas.{rounds_skipped}
use Rattle.wc_nestsolve.proofs.PassLemmas.{turn_fillable, turn_table}
use Rattle.wc_nestsolve.proofs.last.turn.Goals as goal
use Rattle.wc_nestsolve.proofs.last.turn.Goals.{then-v-place-gt0+in_ok-add_rounds, else-v-place-gt0}

pub fill-requires-clause-nodes : goal.fill-requires-clause-nodes
fill-requires-clause-nodes c = turn_fillable _ _ _ c.requires.ways _ _ c.requires.rounds _ _ c.loop_at.ensures _ c.class_at-class.ensures

pub raise_loop-requires-clause-table : goal.raise_loop-requires-clause-table
raise_loop-requires-clause-table c =
    subst (IsFilledFor c.args.system.now c.args.nest.now c.args.ways.now c.args.place c.args.v.now) (sym c.as_slice.ensures.value)
    (turn_table _ _ _ c.requires.ways _ _ c.requires.rounds _ _ c.loop_at.ensures _ _ c.requires.table.tables c.requires.table.counted _ c.class_at-class.ensures c.fill.ensures)

pub add_rounds-requires-clause-table : goal.add_rounds-requires-clause-table
add_rounds-requires-clause-table c =
    subst (IsFilledFor c.args.system.now c.args.nest.now c.args.ways.now c.args.place c.args.v.now) (sym c.as_slice-then-v-place-gt0.ensures.value)
    (turn_table _ _ _ c.requires.ways _ _ c.requires.rounds _ _ c.loop_at.ensures _ _ c.requires.table.tables c.requires.table.counted _ c.class_at-class.ensures c.fill.ensures)

pub clear-requires-clause-known : goal.clear-requires-clause-known
clear-requires-clause-known c = λ i p at.
    let fillable = turn_fillable _ _ _ c.requires.ways _ _ c.requires.rounds _ _ c.loop_at.ensures _ c.class_at-class.ensures in
    omega (arith, fillable.known i p at, c.fill.ensures.counted)

pub returns-clause-turn : goal.returns-clause-turn
returns-clause-turn c =
    let value = c.requires.some.0 in
    let old = c.requires.some.1 in
    let table = turn_table _ _ _ c.requires.ways _ _ c.requires.rounds _ _ c.loop_at.ensures _ _ c.requires.table.tables c.requires.table.counted _ c.class_at-class.ensures c.fill.ensures in
    let counts : AreCounts c.args.system.now c.args.nest.now c.args.v.now value (c.args.place + 1) c.if-v-place-gt0.x.items = elim c.if-v-place-gt0.branch [
      | then-v-place-gt0+in_ok-add_rounds w ↦ subst (λ xs. AreCounts c.args.system.now c.args.nest.now c.args.v.now value (c.args.place + 1) xs.items) (sym w.x-is) (w.in_ok-add_rounds.ensures value old.counts)
      | else-v-place-gt0 w ↦ subst (λ xs. AreCounts c.args.system.now c.args.nest.now c.args.v.now value (c.args.place + 1) xs.items) (sym w.x-is)
          (rounds_skipped _ _ _ c.requires.ways _ _ _ table value _ old.counts (omega (arith, w.if-v-place-gt0.false)))
    ] in
    (value, record { potentials = c.raise_loop.ensures value old.potentials; counts = counts })
