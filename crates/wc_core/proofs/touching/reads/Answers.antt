use Rattle.wc_model.specs.Workspace.Closures.{closure}
use Rattle.wc_core.proofs.TouchLemmas.{tested}
use Rattle.wc_core.proofs.touching.reads.Goals as goal

pub returns : goal.returns
returns c = tested c.args.part (closure c.args.registry.now c.args.kind) c.reads.result c.reads.ensures.listed
