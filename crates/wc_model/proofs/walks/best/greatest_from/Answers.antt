use Rattle.std.proofs.Common.{ℕ, ◌≡◌, ◌<◌, List, Option, Some, All, length, refl, sym, ◌∙◌, subst, arith}
use Rattle.std.specs.List.{Contains, slice_get}
use Rattle.std.proofs.lemmas.Option.{same_Some, slice_get_read}
use Rattle.wc_model.specs.Flow.Ends.{system_ends}
use Rattle.wc_model.specs.Flow.Walks.{Joins, IsOrder, IsCostFrom}
use Rattle.wc_model.specs.Program.Reaching.{here}
use Rattle.wc_model.proofs.Orders.{cost_from, order_inside}
use Rattle.wc_model.proofs.walks.best.greatest_from.Goals as goal

pub greatest_costs-requires-clause-inside : goal.greatest_costs-requires-clause-inside
greatest_costs-requires-clause-inside c =
    let of : IsOrder (Joins system_ends c.args.steps.now) c.args.start c.in-Nodes.order.items = rw c.in-Nodes.is at c.in_ok-node.ensures in
    subst (λ (xs : List ℕ). All (λ p. p < c.args.nodes) xs) (sym c.as_slice.ensures.value) (order_inside c.args.nodes c.args.steps.now c.args.start c.in-Nodes.order.items c.requires.steps c.requires.start of)

pub returns-in_ok-best-in-Nodes : goal.returns-in_ok-best-in-Nodes
returns-in_ok-best-in-Nodes c =
    let steps = c.args.steps.now in
    let start = c.args.start in
    let order : List ℕ = c.in-Nodes.order.items in
    let best : List (Option ℕ) = c.in_ok-best-in-Nodes.best.items in
    let of : IsOrder (Joins system_ends steps) start order = rw c.in-Nodes.is at c.in_ok-node.ensures in
    let among : Contains c.as_slice.result.now start = subst (λ (xs : List ℕ). Contains xs start) (sym c.as_slice.ensures.value) ((of.exactly start).1 here) in
    let entry = c.in_ok-best-in-Nodes.ensures.best start among in
    let read : slice_get best start ≡ Some c.index.result.now = slice_get_read best (length best) start c.index.result.now refl (omega (arith, c.in_ok-best-in-Nodes.ensures.count, c.requires.start)) c.index.ensures in
    subst (λ (b : Option ℕ). IsCostFrom steps start b) (same_Some entry.0 c.index.result.now (sym entry.1 ∙ read)) (cost_from steps start order entry.0 of entry.2)
