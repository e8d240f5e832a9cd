use Rattle.wc_dual.proofs.BlockLemmas.{step_itself, step_out, step_turn}
use Rattle.wc_dual.proofs.blocks.put_step.Goals as goal

pub returns : goal.returns
returns c = step_turn c.args.first c.args.amount.now c.args.step c.args.sums.now c.put.new.sums c.take_off.new.sums c.take_off.result c.if-leads_to_itself.ensures c.if-not-put.ensures c.take_off.ensures

pub returns-then-leads_to_itself : goal.returns-then-leads_to_itself
returns-then-leads_to_itself c = step_itself c.args.first c.args.amount.now c.args.step c.args.sums.now c.if-leads_to_itself.ensures

pub returns-then-not-put : goal.returns-then-not-put
returns-then-not-put c = step_out c.args.first c.args.amount.now c.args.step c.args.sums.now c.if-leads_to_itself.ensures c.if-not-put.ensures
