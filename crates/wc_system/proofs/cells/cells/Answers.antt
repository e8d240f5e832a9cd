use Rattle.std.proofs.Common.{◌+◌, ◌-◌, ◌^◌, ap, length, min, ◌∙◌}
use Rattle.wc_system.proofs.CountLemmas.{cells_are}
use Rattle.wc_system.proofs.cells.cells.Goals as goal

pub returns : goal.returns
returns c =
    c.saturating_mul.ensures ∙ ap (λ n. min n (2 ^ 128 - 1)) (cells_are c.args.system.now c.args.limits c.row_count.result c.column_count-columns.result (length c.items.result.now + c.args.limits)
    c.row_count.ensures c.column_count-columns.ensures (ap (λ xs. length xs + c.args.limits) c.items.ensures))
