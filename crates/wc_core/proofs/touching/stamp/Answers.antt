use Rattle.std.proofs.Common.{get_or, sym, ap, ◌∙◌}
use Rattle.wc_core.proofs.StampLemmas.{else_next, then_next}
use Rattle.wc_core.proofs.touching.stamp.Goals.{then-is_touched, else-is_touched}
use Rattle.wc_core.proofs.touching.stamp.Goals as goal

pub loop-key-preserved : goal.loop-key-preserved
loop-key-preserved c =
    let item = ap (get_or c.loop-key.key-items c.loop-key.key-index) c.key-item.is in
    elim c.if-is_touched.branch [
      | then-is_touched w ↦ w.key-items-is ∙ then_next _ _ _ _ _ (get_or c.loop-key.key-items c.loop-key.key-index c.key-item.result) c.loop-key.invariant c.loop-key-test.true item (sym c.is_touched.ensures ∙ w.if-is_touched.true)
      | else-is_touched w ↦ w.key-items-is ∙ else_next _ _ _ _ _ (get_or c.loop-key.key-items c.loop-key.key-index c.key-item.result) c.loop-key.invariant c.loop-key-test.true item (sym c.is_touched.ensures ∙ w.if-is_touched.false)
    ]
