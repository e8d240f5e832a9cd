use Rattle.std.proofs.Common.{rules, ◌≡◌, ◌<◌, length, slice_get, get_or, Some, sym, ap, subst, ◌∙◌, arith}
use Rattle.std.proofs.lemmas.Option.{slice_get-get_or}
use Rattle.wc_nestsolve.specs.Inner.Tables.{IsBestOf, found_at}
use Rattle.wc_nestsolve.proofs.FillLemmas.{fill_more, fill_small}
use Rattle.wc_nestsolve.proofs.tables.fill.Goals as goal

pub find-found-requires-clause-small : goal.find-found-requires-clause-small
find-found-requires-clause-small c = λ q f at.
    let same : c.as_slice.result.now ≡ c.loop-node.best.items = search rules in
    fill_small _ _ _ _ _ _ _ c.requires.nodes c.loop-node.invariant q f (ap (λ xs. found_at xs q) (sym same) ∙ at)

pub index_mut-requires : goal.index_mut-requires
index_mut-requires c =
    let less : c.loop-node.node-index < length c.args.nodes.now = search rules in
    let here : slice_get c.args.nodes.now c.loop-node.node-index ≡ Some (get_or c.args.nodes.now c.loop-node.node-index 0) = slice_get-get_or c.args.nodes.now c.loop-node.node-index 0 less in
    let known = c.requires.nodes.known _ _ here in
    let counted = c.loop-node.invariant.counted in
    search rules

pub loop-node-preserved : goal.loop-node-preserved
loop-node-preserved c =
    let less : c.loop-node.node-index < length c.args.nodes.now = search rules in
    let here : slice_get c.args.nodes.now c.loop-node.node-index ≡ Some (get_or c.args.nodes.now c.loop-node.node-index 0) = slice_get-get_or c.args.nodes.now c.loop-node.node-index 0 less in
    let known = c.requires.nodes.known _ _ here in
    let same : c.as_slice.result.now ≡ c.loop-node.best.items = search rules in
    let is = subst (λ xs. IsBestOf c.args.system.now c.args.nest.now c.args.goal (get_or c.args.nodes.now c.loop-node.node-index 0) c.args.extra.now xs c.find-found.result) same c.find-found.ensures in
    fill_more _ _ _ _ _ c.requires.nodes _ _ _ here _ c.loop-node.invariant is (omega (arith, known, c.loop-node.invariant.counted))
