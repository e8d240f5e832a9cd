use Rattle.std.proofs.Common.{map, sym, ap, ◌∙◌}
use Rattle.wc_model.specs.Workspace.History.{key_with}
use Rattle.wc_model.specs.Workspace.States.{in_store}
use Rattle.wc_core.specs.Inner.Lines.{row_of}
use Rattle.wc_core.proofs.LineLemmas.{stored_none, stored_some}
use Rattle.wc_core.proofs.store.Store.has.Goals as goal

pub returns-in-Some : goal.returns-in-Some
returns-in-Some g c =
    c.has.ensures
    ∙ sym (stored_some c.args.kind c.args.name.now c.args.stamp c.self.inside.rows.entries c.in-Some.row.now (sym c.in-Some.ensures.value) c.self.invariant.apart)
    ∙ ap (λ s. in_store (key_with c.args.kind c.args.name.now c.args.stamp) (map row_of s.lines)) c.self.view_is

pub returns-in-None : goal.returns-in-None
returns-in-None g c =
    sym (stored_none c.args.kind c.args.name.now c.args.stamp c.self.inside.rows.entries (sym c.in-None.ensures.value))
    ∙ ap (λ s. in_store (key_with c.args.kind c.args.name.now c.args.stamp) (map row_of s.lines)) c.self.view_is
