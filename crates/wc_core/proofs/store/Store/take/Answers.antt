use Rattle.std.proofs.Common.{List, ◌<◌, All, length, sym, ap, subst, ◌∙◌}
use Rattle.std.specs.Map.{set_value}
use Rattle.std.specs.Option.{option_and_then}
use Rattle.wc_core.specs.Inner.Lines.{AllWide, AreFew, at_name, copy_for, lines_of, names}
use Rattle.wc_core.specs.Inner.Shelves.{find_copy, row_taken}
use Rattle.wc_core.proofs.LineLemmas.{changed_is, names_stay, read_is, row_has, test, unchanged_is}
use Rattle.wc_core.proofs.store.Store.take.Goals.{in-Some, in-None}
use Rattle.wc_core.proofs.store.Store.take.Goals as goal

pub take-requires : goal.take-requires
take-requires g c = row_has c.args.name.now (λ r. All (λ s. c.args.session < length s.copies) r.shelves) c.self.inside.rows.entries c.in-Some.row.now (sym c.in-Some.ensures.value) (subst (λ ls. AllWide c.args.session ls) (ap (λ s. s.lines) (sym c.self.view_is)) c.requires)

pub invariant_of-self : goal.invariant_of-self
invariant_of-self g c =
    elim c.match-get_mut.branch [
      | in-Some w ↦ subst (λ ns. AreFew ns) (sym (ap names (ap (λ s. lines_of s.rows.entries) w.self-inside-is ∙ ap lines_of (c.get_mut.follows.holds w.take.new.self).0 ∙ ap (λ r. lines_of (set_value (test c.args.name.now) c.self.inside.rows.entries r)) w.take.ensures.rest ∙ changed_is c.args.name.now (row_taken c.args.kind c.args.stamp c.args.session) c.self.inside.rows.entries w.in-Some.row.now (sym w.in-Some.ensures.value)) ∙ names_stay (row_taken c.args.kind c.args.stamp c.args.session) c.args.name.now (lines_of c.self.inside.rows.entries))) c.self.invariant
      | in-None w ↦ subst (λ ns. AreFew ns) (sym (ap names (ap (λ s. lines_of s.rows.entries) w.self-inside-is ∙ ap (λ m. lines_of m.entries) c.get_mut.follows.holds-at-none ∙ unchanged_is c.args.name.now (row_taken c.args.kind c.args.stamp c.args.session) c.self.inside.rows.entries (sym w.in-None.ensures.value)) ∙ names_stay (row_taken c.args.kind c.args.stamp c.args.session) c.args.name.now (lines_of c.self.inside.rows.entries))) c.self.invariant
    ]

pub returns-clause-rest : goal.returns-clause-rest
returns-clause-rest g c =
    elim c.match-get_mut.branch [
      | in-Some w ↦ ap (λ s. lines_of s.rows.entries) w.self-inside-is ∙ ap lines_of (c.get_mut.follows.holds w.take.new.self).0 ∙ ap (λ r. lines_of (set_value (test c.args.name.now) c.self.inside.rows.entries r)) w.take.ensures.rest ∙ changed_is c.args.name.now (row_taken c.args.kind c.args.stamp c.args.session) c.self.inside.rows.entries w.in-Some.row.now (sym w.in-Some.ensures.value) ∙ ap (λ s. at_name c.args.name.now (row_taken c.args.kind c.args.stamp c.args.session) s.lines) c.self.view_is
      | in-None w ↦ ap (λ s. lines_of s.rows.entries) w.self-inside-is ∙ ap (λ m. lines_of m.entries) c.get_mut.follows.holds-at-none ∙ unchanged_is c.args.name.now (row_taken c.args.kind c.args.stamp c.args.session) c.self.inside.rows.entries (sym w.in-None.ensures.value) ∙ ap (λ s. at_name c.args.name.now (row_taken c.args.kind c.args.stamp c.args.session) s.lines) c.self.view_is
    ]

pub returns-clause-copy : goal.returns-clause-copy
returns-clause-copy g c =
    elim c.match-get_mut.branch [
      | in-Some w ↦ w.result-is ∙ w.take.ensures.copy ∙ ap (λ o. option_and_then (λ r. find_copy c.args.kind c.args.stamp c.args.session r.shelves) o) w.in-Some.ensures.value ∙ sym (read_is c.args.name.now (λ r. find_copy c.args.kind c.args.stamp c.args.session r.shelves) c.self.inside.rows.entries) ∙ ap (λ s. copy_for c.args.name.now c.args.kind c.args.stamp c.args.session s.lines) c.self.view_is
      | in-None w ↦ w.result-is ∙ ap (λ o. option_and_then (λ r. find_copy c.args.kind c.args.stamp c.args.session r.shelves) o) w.in-None.ensures.value ∙ sym (read_is c.args.name.now (λ r. find_copy c.args.kind c.args.stamp c.args.session r.shelves) c.self.inside.rows.entries) ∙ ap (λ s. copy_for c.args.name.now c.args.kind c.args.stamp c.args.session s.lines) c.self.view_is
    ]
