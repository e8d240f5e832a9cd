use Rattle.std.proofs.Common.{Some, refl, ap}
use Rattle.wc_bounds.proofs.TallyLemmas.{count_none, count_some}
use Rattle.wc_bounds.proofs.tallies.Tally.count.Goals as goal

pub returns-in_ok-push-in-Some : goal.returns-in_ok-push-in-Some
returns-in_ok-push-in-Some c =
    let best = rw c.items.ensures at c.best.ensures in
    count_some c.args.graph.now c.args.nest.now c.requires.places c.args.facts.now c.args.index c.head_node-node.result c.head_node-node.ensures c.args.self.now _ c.in-Some.best (λ p is_at. rw c.in-Some.is at (best p is_at)) c.in_ok-push-in-Some.ensures.items refl

pub returns-in-None : goal.returns-in-None
returns-in-None c =
    let best = rw c.items.ensures at c.best.ensures in
    count_none c.args.graph.now c.args.nest.now c.requires.places c.args.facts.now c.args.index c.head_node-node.result c.head_node-node.ensures c.args.self.now _ (λ p is_at. rw c.in-None.is at (best p is_at)) (ap Some c.lesser.ensures)
