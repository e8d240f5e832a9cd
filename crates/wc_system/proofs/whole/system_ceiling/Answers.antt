use Rattle.std.proofs.Common.{◌≡◌, ◌<◌, ap₂, length, subst, sym, ◌∙◌}
use Rattle.std.specs.Prelude.{All, IfOk}
use Rattle.wc_model.specs.Flow.Ceiling.{ceiling_by}
use Rattle.wc_system.specs.Inner.Capped.{capped}
use Rattle.wc_system.proofs.WholeLemmas.{ceiling_as, sources_inside}
use Rattle.wc_system.proofs.whole.system_ceiling.Goals as goal

pub capped_ceiling-requires-clause-sources : goal.capped_ceiling-requires-clause-sources
capped_ceiling-requires-clause-sources c =
    subst (λ xs. All (λ t. t.source < length c.args.nest.now.inside) xs) (sym c.items-2.ensures)
    (sources_inside c.args.graph.now c.args.nest.now c.args.bounds.now c.args.costs.now c.args.system.now c.requires.graph c.requires.nest c.requires.bounds c.requires.costs c.requires.system)

pub returns : goal.returns
returns c =
    let same = ap₂ (λ bounds steps. ceiling_by c.args.nest.now bounds (length c.args.nest.now.inside) steps) c.items.ensures c.items-2.ensures
    ∙ ceiling_as c.args.graph.now c.args.nest.now c.args.bounds.now c.args.costs.now c.args.system.now c.requires.graph c.requires.nest c.requires.bounds c.requires.costs c.requires.system in
    subst (λ m. IfOk c.capped_ceiling.result (λ n. n ≡ capped m)) same c.capped_ceiling.ensures
