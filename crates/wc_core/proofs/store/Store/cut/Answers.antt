use Rattle.std.proofs.Common.{rules, sym, ap, subst, ◌∙◌}
use Rattle.std.proofs.lemmas.Map.Made.{map_same_pairs}
use Rattle.wc_model.specs.Workspace.Closures.{closure}
use Rattle.wc_core.specs.Inner.Lines.{AreFew, lines_of, names}
use Rattle.wc_core.specs.Inner.Touching.{lines_cut, row_cut, touches_kind}
use Rattle.wc_core.proofs.CutLemmas.{cut_entries, cut_names}
use Rattle.wc_core.proofs.store.Store.cut.Goals as goal

pub invariant_of-self : goal.invariant_of-self
invariant_of-self g c =
    let new = ap lines_of (map_same_pairs _ (row_cut (λ k. touches_kind c.args.touched (closure c.args.registry.now k))) _ (λ k v b w f' called. search rules) _ _ c.retain.ensures.filtered) ∙ cut_entries (λ k. touches_kind c.args.touched (closure c.args.registry.now k)) c.self.inside.rows.entries in
    subst (λ ns. AreFew ns) (sym (ap names new ∙ cut_names (λ k. touches_kind c.args.touched (closure c.args.registry.now k)) (lines_of c.self.inside.rows.entries))) c.self.invariant

pub returns-clause-lines : goal.returns-clause-lines
returns-clause-lines g c =
    ap lines_of (map_same_pairs _ (row_cut (λ k. touches_kind c.args.touched (closure c.args.registry.now k))) _ (λ k v b w f' called. search rules) _ _ c.retain.ensures.filtered) ∙ cut_entries (λ k. touches_kind c.args.touched (closure c.args.registry.now k)) c.self.inside.rows.entries ∙ ap (λ s. lines_cut (λ k. touches_kind c.args.touched (closure c.args.registry.now k)) s.lines) c.self.view_is
