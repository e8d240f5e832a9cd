use Rattle.std.proofs.Common.{length, arith}
use Rattle.wc_graph.proofs.OpenedLemmas.{short_parent, below_inside, opened_more}
use Rattle.wc_graph.proofs.opened.Opened.open.Goals as goal

pub root_below-below-requires : goal.root_below-below-requires
root_below-below-requires c = let rs = c.args.self.now.roots.items in short_parent c.args.frames.now rs (length rs) c.args.frame c.requires.frames c.requires.next (omega arith)

pub with-requires-clause-inside : goal.with-requires-clause-inside
with-requires-clause-inside c = below_inside c.args.frames.now c.args.self.now.branches.items c.args.self.now.roots.items c.args.frame.parent c.root_below-below.result c.requires.opened c.root_below-below.ensures

pub returns-clause-opened : goal.returns-clause-opened
returns-clause-opened c =
    let old = c.args.self.now in
    opened_more c.args.frames.now old.branches.items c.with.new.branches.items old.roots.items c.args.frame c.root_below-below.result c.in_ok-root.root c.requires.frames c.requires.opened c.requires.next c.root_below-below.ensures c.in_ok-root.ensures c.push.new.self.items c.in_ok-push.ensures.items
