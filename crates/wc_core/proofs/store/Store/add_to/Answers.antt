use Rattle.std.proofs.Common.{◌≡◌, false, map, None, Some, MatchOption, is_some, true, refl, sym, ap, subst, ◌∙◌}
use Rattle.std.specs.Map.{set_value}
use Rattle.wc_model.specs.Workspace.States.{has_row}
use Rattle.wc_core.specs.Inner.Lines.{AreFew, HasPlace, at_name, lines_of, names, row_of}
use Rattle.wc_core.specs.Inner.Shelves.{row_longer}
use Rattle.wc_core.proofs.LineLemmas.{changed_is, names_stay, place_at, row_there, test}
use Rattle.wc_core.proofs.store.Store.add_to.Goals.{in-Some, in-None}
use Rattle.wc_core.proofs.store.Store.add_to.Goals as goal

pub keep-requires : goal.keep-requires
keep-requires g c = place_at c.args.name.now c.self.inside.rows.entries c.in-Some.row.now (sym c.in-Some.ensures.value) (subst (λ ls. HasPlace c.args.name.now ls) (ap (λ s. s.lines) (sym c.self.view_is)) c.requires)

pub invariant_of-self : goal.invariant_of-self
invariant_of-self g c =
    elim c.match-get_mut.branch [
      | in-Some w ↦ subst (λ ns. AreFew ns) (sym (ap names (ap (λ s. lines_of s.rows.entries) w.self-inside-is ∙ ap lines_of (c.get_mut.follows.holds w.keep.new.self).0 ∙ ap (λ r. lines_of (set_value (test c.args.name.now) c.self.inside.rows.entries r)) w.keep.ensures ∙ changed_is c.args.name.now (row_longer c.args.shelf) c.self.inside.rows.entries w.in-Some.row.now (sym w.in-Some.ensures.value)) ∙ names_stay (row_longer c.args.shelf) c.args.name.now (lines_of c.self.inside.rows.entries))) c.self.invariant
      | in-None w ↦ subst (λ ns. AreFew ns) (sym (ap names (ap (λ s. lines_of s.rows.entries) w.self-inside-is ∙ ap (λ m. lines_of m.entries) c.get_mut.follows.holds-at-none))) c.self.invariant
    ]

pub returns-clause-kept : goal.returns-clause-kept
returns-clause-kept g c =
    elim c.match-get_mut.branch [
      | in-Some w ↦ rw w.result-is (
        sym (ap (λ s. has_row c.args.name.now (map row_of s.lines)) c.self.view_is) ∙ row_there c.args.name.now c.self.inside.rows.entries ∙ ap is_some (sym w.in-Some.ensures.value),
        ap (λ s. lines_of s.rows.entries) w.self-inside-is ∙ ap lines_of (c.get_mut.follows.holds w.keep.new.self).0 ∙ ap (λ r. lines_of (set_value (test c.args.name.now) c.self.inside.rows.entries r)) w.keep.ensures ∙ changed_is c.args.name.now (row_longer c.args.shelf) c.self.inside.rows.entries w.in-Some.row.now (sym w.in-Some.ensures.value) ∙ ap (λ s. at_name c.args.name.now (row_longer c.args.shelf) s.lines) c.self.view_is,
      )
      | in-None w ↦ rw w.result-is (
        refl,
        sym (ap (λ s. has_row c.args.name.now (map row_of s.lines)) c.self.view_is) ∙ row_there c.args.name.now c.self.inside.rows.entries ∙ ap is_some (sym w.in-None.ensures.value),
        ap (λ s. lines_of s.rows.entries) w.self-inside-is ∙ ap (λ m. lines_of m.entries) c.get_mut.follows.holds-at-none ∙ ap (λ s. s.lines) c.self.view_is,
      )
    ]
