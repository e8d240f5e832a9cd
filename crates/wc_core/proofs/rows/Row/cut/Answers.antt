use Rattle.std.proofs.Common.{rules, not, sym, ap, ap₂, ◌∙◌}
use Rattle.std.proofs.lemmas.Fn.{filter_same}
use Rattle.wc_model.specs.Workspace.Closures.{closure}
use Rattle.wc_core.specs.Inner.Touching.{row_cut, touches_kind}
use Rattle.wc_core.proofs.rows.Row.cut.Goals as goal

pub returns : goal.returns
returns g c =
    ap₂ (λ ss n. record { shelves = ss; room = n }) (filter_same _ (λ s. not (touches_kind c.args.touched (closure c.args.registry.now s.kind))) _ (λ x b f' called. search rules) _ _ c.retain.ensures.filtered) c.retain.ensures.capacity
    ∙ ap (row_cut (λ k. touches_kind c.args.touched (closure c.args.registry.now k))) c.self.view_is
