use Rattle.std.proofs.Common.{map, ap, sym, arith, ◌-◌}
use Rattle.std.proofs.lemmas.List.{length-map}
use Rattle.wc_io.proofs.RowLemmas.{marked_set, marked_past}
use Rattle.wc_io.specs.Rows.{row_of, with_faults}
use Rattle.wc_io.specs.declared.opened.OpenedRow.{OpenedRow}
use Rattle.wc_io.proofs.opened.mark_row.Goals as goal

pub returns-then-index-len : goal.returns-then-index-len
returns-then-index-len c =
    marked_set c.args.rows.now.items (c.args.place - 1) c.args.faults c.index_mut.result.now _
    (ap (λ (r : OpenedRow). with_faults c.args.faults (row_of r)) c.index_mut.ensures.value)

pub returns-else-index-len : goal.returns-else-index-len
returns-else-index-len c = sym (marked_past (map row_of c.args.rows.now.items) (c.args.place - 1) c.args.faults (omega (arith, length-map c.args.rows.now.items row_of)))
