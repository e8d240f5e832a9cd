use Rattle.wc_model.specs.declared.values.Outcome.TheVariants.{Bound, Fault}
use Rattle.wcet.specs.Chained.{given}
use Rattle.wcet.proofs.ChainLemmas.{refused_by}
use Rattle.wc_laws.proofs.OneOutcomeLemmas.{one_outcome}
use Rattle.wcet.proofs.chain.chain.Goals as goal

pub returns-in-Ok-clause-only : goal.returns-in-Ok-clause-only
returns-in-Ok-clause-only g c = λ other is. one_outcome (given c.args.image.now c.args.facts.now c.args.hardware.now) c.args.name.now other (Bound c.in-Ok.bound) is c.in-Ok.ensures

pub returns-in-Err-Fault-clause-only : goal.returns-in-Err-Fault-clause-only
returns-in-Err-Fault-clause-only g c = λ other is. one_outcome (given c.args.image.now c.args.facts.now c.args.hardware.now) c.args.name.now other (Fault c.in-Err-Fault.fault) is
    (refused_by (given c.args.image.now c.args.facts.now c.args.hardware.now) c.args.name.now c.analyse.result _ c.in-Err-Fault.fault c.in-Err-Fault.is c.in-Err-Fault.field-0-is c.analyse.ensures)
