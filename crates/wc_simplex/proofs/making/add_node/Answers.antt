use Rattle.std.proofs.Common.{◌++◌, ◌∷◌, [], Some, map, refl, sym, ◌∙◌, ap}
use Rattle.wc_simplex.specs.Inner.Halves.{half_as, node_half}
use Rattle.wc_simplex.proofs.EndEntryLemmas.{node_half_is}
use Rattle.wc_simplex.proofs.MakingLemmas.{node_added}
use Rattle.wc_simplex.proofs.making.add_node.Goals as goal

pub returns : goal.returns
returns c =
    node_added c.args.system.now c.args.columns.now c.args.slacks c.args.node (Some (node_half c.args.system.now c.args.columns.now c.args.slacks c.args.node)) (Some tt) c.args.made.now.items
    c.add_half.new.made.items
    (sym c.if-is_passed.false ∙ c.is_passed.ensures)
    (node_half_is c.args.system.now c.args.columns.now c.args.slacks c.args.node (sym c.if-is_passed.false ∙ c.is_passed.ensures) c.requires.ordered)
    (refl, c.in_ok-add_half.ensures ∙ ap (λ h. map half_as c.args.made.now.items ++ h ∷ []) c.in_ok-half.ensures)
