use Rattle.std.proofs.Common.{rules}
use Rattle.wc_model.specs.Workspace.Edits.{setting_of}
use Rattle.wc_works.proofs.graph_work.graph_for.Goals as goal

pub returns-clause-feature : goal.returns-clause-feature
returns-clause-feature c = c.graph_of.ensures.feature (setting_of c.args.job.now.inputs.value) c.args.job.now.name.value (search rules) (search rules) (search rules)
