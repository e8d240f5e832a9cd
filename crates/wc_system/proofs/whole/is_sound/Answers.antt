use Rattle.std.proofs.Common.{subst}
use Rattle.wc_system.specs.Inner.Capped.{AreSmall}
use Rattle.wc_system.proofs.WholeLemmas.{steps_few, unlimited_sound}
use Rattle.wc_system.proofs.whole.is_sound.Goals as goal

pub returns-clause-sound : goal.returns-clause-sound
returns-clause-sound c =
    unlimited_sound c.args.graph.now c.args.nest.now c.args.bounds.now c.args.costs.now c.args.system.now c.requires.graph c.requires.nest c.requires.bounds c.requires.costs c.requires.system
    (subst AreSmall c.items.ensures c.bounds_fit.ensures)

pub returns-clause-few : goal.returns-clause-few
returns-clause-few c =
    steps_few c.args.graph.now c.args.nest.now c.args.bounds.now c.args.costs.now c.args.system.now c.requires.graph c.requires.nest c.requires.bounds c.requires.costs c.requires.system
