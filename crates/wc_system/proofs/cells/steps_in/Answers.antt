use Rattle.std.proofs.Common.{◌≡◌, ap, sym, subst, ◌∙◌, get_or, None, length, ◌+◌, ◌<◌}
use Rattle.std.proofs.lemmas.Option.{slice_get-get_or}
use Rattle.std.specs.Prelude.{IfSome}
use Rattle.wc_model.specs.declared.flow_system.SystemStep.{SystemStep}
use Rattle.wc_system.specs.Inner.Counted.{AreCounts, enters_node}
use Rattle.wc_system.proofs.CountLemmas.{target_next, target_within}
use Rattle.wc_system.proofs.cells.steps_in.Goals as goal

pub raise-requires-clause-known : goal.raise-requires-clause-known
raise-requires-clause-known c =
    subst (λ n. IfSome c.target_at.result (λ q. q < n)) (sym c.loop-place.invariant.counted)
    (target_within c.args.steps.now c.args.nodes c.loop-place.place c.target_at.result c.requires.targets c.loop-place-test.true c.target_at.ensures)

pub loop-place-preserved : goal.loop-place-preserved
loop-place-preserved c =
    subst (λ cs. AreCounts enters_node c.args.steps.now c.args.nodes (c.loop-place.place + 1) cs) (sym c.raise.ensures)
    (target_next c.args.steps.now c.args.nodes c.loop-place.place c.loop-place.counts.items c.target_at.result c.loop-place.invariant c.loop-place-test.true
    (target_within c.args.steps.now c.args.nodes c.loop-place.place c.target_at.result c.requires.targets c.loop-place-test.true c.target_at.ensures) c.target_at.ensures)
