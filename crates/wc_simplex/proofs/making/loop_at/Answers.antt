use Rattle.std.proofs.Common.{◌∙◌, ap, get_or, subst}
use Rattle.std.proofs.lemmas.List.{get_or_default}
use Rattle.std.proofs.lemmas.Result.{IfOk-weaker}
use Rattle.wc_model.specs.declared.flow_system.SystemLoop.{SystemLoop}
use Rattle.wc_model.specs.Flow.Tableaus.{loop_line}
use Rattle.wc_simplex.specs.Inner.Lines.{IsLine}
use Rattle.wc_simplex.proofs.making.loop_at.Goals as goal

pub returns : goal.returns
returns c =
    let s = c.args.system.now in
    let l = c.index-items-place.result in
    IfOk-weaker c.loop_row.result (IsLine s (loop_line s l)) (λ row. (d : SystemLoop) → IsLine s (loop_line s (get_or s.loops c.args.place d)) row)
    (λ row is d. subst (λ (x : SystemLoop). IsLine s (loop_line s x) row) (c.index-items-place.is ∙ ap (λ ls. get_or ls c.args.place l) c.items.ensures ∙ get_or_default s.loops c.args.place l d c.requires.place) is)
    c.loop_row.ensures
