use Rattle.std.proofs.Common.{◌≡◌, sym, subst, rules}
use Rattle.wc_model.specs.declared.walks.search.Order.TheVariants.{Cycle, Nodes}
use Rattle.wc_model.specs.Flow.Ends.{system_ends}
use Rattle.wc_model.specs.Flow.Walks.{AreSteps, IsSearched, Joins}
use Rattle.wc_nestsolve.specs.Inner.Orders.{loosened}
use Rattle.wc_nestsolve.proofs.OrderLemmas.{list_steps, no_cycle, order_is}
use Rattle.wc_nestsolve.proofs.order.order.Goals as goal

pub order_nodes-requires-clause-steps : goal.order_nodes-requires-clause-steps
order_nodes-requires-clause-steps c =
    let same : c.as_slice.result.now ≡ loosened c.args.nest.now.back c.args.system.now.steps = search rules in
    subst (AreSteps system_ends c.args.system.now.nodes) (sym same) (list_steps c.args.nest.now c.args.system.now c.requires)

pub unreachable-requires : goal.unreachable-requires
unreachable-requires c =
    let same : c.as_slice.result.now ≡ loosened c.args.nest.now.back c.args.system.now.steps = search rules in
    no_cycle c.args.nest.now c.args.system.now c.requires c.in-Cycle.field-0
    (subst (λ xs. IsSearched (Joins system_ends xs) c.args.system.now.start (Cycle c.in-Cycle.field-0)) same
    (subst (λ o. IsSearched (Joins system_ends c.as_slice.result.now) c.args.system.now.start o) c.in-Cycle.is c.in_ok-order.ensures))

pub returns : goal.returns
returns c =
    let same : c.as_slice.result.now ≡ loosened c.args.nest.now.back c.args.system.now.steps = search rules in
    order_is c.args.nest.now c.args.system.now c.requires c.in-Nodes.order.items
    (subst (λ xs. IsSearched (Joins system_ends xs) c.args.system.now.start (Nodes c.in-Nodes.order)) same
    (subst (λ o. IsSearched (Joins system_ends c.as_slice.result.now) c.args.system.now.start o) c.in-Nodes.is c.in_ok-order.ensures))
