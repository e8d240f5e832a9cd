use Rattle.std.proofs.Common.{rules, refl, sym, ap, ◌∙◌}
use Rattle.wc_core.specs.Turns.{waits}
use Rattle.wc_core.proofs.HomeLemmas.{starts_is, waits_is}
use Rattle.wc_core.proofs.asks.step_for.Goals as goal

pub returns-in-None : goal.returns-in-None
returns-in-None g c = (refl, refl, starts_is c.args.key.0 c.args.works.now.home c.args.works.now.out _ (sym c.runner.ensures ∙ c.in-None.is) (search rules))

pub returns-in-None-2 : goal.returns-in-None-2
returns-in-None-2 g c = waits_is c.args.key.0 c.args.works.now.home c.args.works.now.out _ (sym c.runner.ensures ∙ c.in-None-2.is) (search rules) ∙ ap waits (sym c.earliest.ensures)
