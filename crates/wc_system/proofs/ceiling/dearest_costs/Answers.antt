use Rattle.wc_system.proofs.CeilingLemmas.{dearest_begin}
use Rattle.wc_system.proofs.ceiling.dearest_costs.Goals as goal

pub loop-place-init : goal.loop-place-init
loop-place-init c = dearest_begin c.args.steps.now c.args.nodes c.in_ok-costs.costs.items c.in_ok-costs.ensures
