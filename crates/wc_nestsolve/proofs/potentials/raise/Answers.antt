use Rattle.std.proofs.Common.{rules, ◌≡◌, ◌<◌, length, slice_get, get_or, Some}
use Rattle.std.proofs.lemmas.Option.{slice_get-get_or}
use Rattle.wc_nestsolve.proofs.RaiseLemmas.{raise_more}
use Rattle.wc_nestsolve.proofs.potentials.raise.Goals as goal

pub loop-node-preserved : goal.loop-node-preserved
loop-node-preserved c =
    let less : c.loop-node.node-index < length c.args.class.now = search rules in
    let here : slice_get c.args.class.now c.loop-node.node-index ≡ Some (get_or c.args.class.now c.loop-node.node-index 0) = slice_get-get_or c.args.class.now c.loop-node.node-index 0 less in
    raise_more _ _ _ _ _ _ _ _ c.requires.class here c.loop-node.invariant c.raise_one.ensures
