use Rattle.std.proofs.Common.{refl, ◌∙◌, rules}
use Rattle.std.proofs.lemmas.Int.{to_z-of_z}
use mir.Syntax.{w128}
use Rattle.wc_simplex.proofs.LineLemmas.{loop_line_is}
use Rattle.wc_simplex.proofs.lines.loop_row.Goals as goal

pub returns : goal.returns
returns c =
    let e =
    loop_line_is c.args.system.now c.args.l.now c.items-steps.result.now c.items.result.now c.items-2.result.now c.in_ok-back.back.items c.in_ok-entry.entry.items
    c.deref.result.now c.deref-2.result.now c.in_ok-entries.entries.items c.items-steps.ensures c.items.ensures c.items-2.ensures c.in_ok-back.ensures c.in_ok-entry.ensures
    c.deref.ensures.value c.deref-2.ensures.value c.in_ok-entries.ensures in
    record { count = e.0; entries = e.1; side = to_z-of_z w128 c.loop_side.result (search rules) ∙ c.loop_side.ensures; slack = refl }
