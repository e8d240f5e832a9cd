use Rattle.std.proofs.Common.{◌≡◌, ◌<◌, ◌∷◌, [], ◌++◌, false, map, length, sym, ap, subst, ◌∙◌}
use Rattle.indexmap.proofs.CallerLemmas.{insert_entry-new}
use Rattle.wc_model.specs.Workspace.States.{has_row}
use Rattle.wc_core.specs.Inner.Lines.{AreFew, lines_of, names, row_of}
use Rattle.wc_core.proofs.InsertLemmas.{absent, few_last, lines_last, on_ok}
use Rattle.wc_core.proofs.store.Store.insert.Goals as goal

pub invariant_of-self : goal.invariant_of-self
invariant_of-self g c =
    let es = c.self.inside.rows.entries in
    let none = ap (λ s. has_row c.args.name.items (map row_of s.lines)) c.self.view_is ∙ c.requires.absent in
    let there = on_ok c.insert-inserted.result _ (c.insert-inserted.ensures.succeeds (subst (λ n. 0 < n) (ap (λ s. s.spare) (sym c.self.view_is)) c.requires.spare)) c.insert-inserted.ensures.entries in
    let new = there ∙ insert_entry-new _ c.self.inside.rows c.args.name c.args.row (absent c.args.name.items es none) in
    subst (λ ls. AreFew (names ls)) (sym (ap lines_of new ∙ lines_last es (c.args.name, c.args.row)))
    (few_last (lines_of es) (record { name = c.args.name.items; row = c.args.row }) c.self.invariant none (subst (λ n. n < 32) (ap (λ s. length s.lines) (sym c.self.view_is)) c.requires.few))

pub returns-clause-lines : goal.returns-clause-lines
returns-clause-lines g c =
    let es = c.self.inside.rows.entries in
    let none = ap (λ s. has_row c.args.name.items (map row_of s.lines)) c.self.view_is ∙ c.requires.absent in
    let there = on_ok c.insert-inserted.result _ (c.insert-inserted.ensures.succeeds (subst (λ n. 0 < n) (ap (λ s. s.spare) (sym c.self.view_is)) c.requires.spare)) c.insert-inserted.ensures.entries in
    let new = there ∙ insert_entry-new _ c.self.inside.rows c.args.name c.args.row (absent c.args.name.items es none) in
    ap lines_of new ∙ lines_last es (c.args.name, c.args.row) ∙ ap (λ s. s.lines ++ record { name = c.args.name.items; row = c.args.row } ∷ []) c.self.view_is
