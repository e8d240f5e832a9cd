use Rattle.wc_mustmay.proofs.LineGraphLemmas.{line_more}
use Rattle.wc_mustmay.proofs.tests.steps_of.Goals as goal

pub loop-source-preserved : goal.loop-source-preserved
loop-source-preserved c = line_more c.args.nodes c.loop-source.source c.jump_of.result c.loop-source.steps.items c.add_steps.new.steps.items c.jump_of.ensures c.in_ok-add_steps.ensures c.loop-source.invariant
