use Rattle.std.proofs.Common.{length, subst, ◌∙◌}
use Rattle.wc_model.specs.Flow.Places.{number_at}
use Rattle.wc_dual.specs.Inner.Blocks.{AreBalances, LeavesIn}
use Rattle.wc_dual.proofs.FlowLemmas.{block_no, block_wide, block_yes}
use Rattle.wc_dual.proofs.counts.check_block.Goals as goal

pub returns-then-not-balances-clause-block : goal.returns-then-not-balances-clause-block
returns-then-not-balances-clause-block c =
    block_wide c.args.system.now (number_at c.args.x.now) c.args.first _ c.requires.system
    (subst (λ steps. LeavesIn steps (number_at c.args.x.now) c.args.first (length c.clear.new.room)) c.items.ensures c.if-not-balances.ensures.sums)

pub returns-then-are_wanted-clause-block : goal.returns-then-are_wanted-clause-block
returns-then-are_wanted-clause-block c =
    let sums = subst (λ steps. AreBalances steps (number_at c.args.x.now) c.args.first (length steps) c.balances.new.sums) c.items.ensures c.if-not-balances.ensures.sums in
    block_yes c.args.system.now c.args.den.now (number_at c.args.x.now) c.args.first c.balances.new.sums sums _ (c.balances.ensures.kept ∙ c.clear.ensures.kept) c.if-are_wanted.ensures

pub returns-else-are_wanted-clause-block : goal.returns-else-are_wanted-clause-block
returns-else-are_wanted-clause-block c =
    let sums = subst (λ steps. AreBalances steps (number_at c.args.x.now) c.args.first (length steps) c.balances.new.sums) c.items.ensures c.if-not-balances.ensures.sums in
    λ block. c.if-are_wanted.ensures (block_no c.args.system.now c.args.den.now (number_at c.args.x.now) c.args.first c.balances.new.sums sums _ (c.balances.ensures.kept ∙ c.clear.ensures.kept) block)
