use Rattle.std.proofs.Common.{sym, ap, ◌∙◌}
use Rattle.std.specs.Prelude.{position}
use Rattle.std.specs.List.{slice_index_or}
use Rattle.std.specs.Option.{option_and_then}
use Rattle.wc_core.specs.Inner.Shelves.{copy_of, find_copy, is_shelf, row_taken, shelf_taken}
use Rattle.wc_core.proofs.FirstLemmas.{changed_at, position_none, read_at}
use Rattle.wc_core.proofs.rows.Row.take.Goals as goal

pub returns-in-Some-clause-copy : goal.returns-in-Some-clause-copy
returns-in-Some-clause-copy g c =
    let test = is_shelf c.args.kind c.args.stamp in
    let at = sym c.place.ensures ∙ c.in-Some.is in
    c.take_copy.ensures.copy ∙ read_at test (copy_of c.args.session) c.args.self.now.shelves c.in-Some.place c.index_mut.result.now at (c.index_mut.ensures.value ∙ ap (λ r. slice_index_or r.shelves c.in-Some.place c.index_mut.result.now) c.self.view_is)

pub returns-in-Some-clause-rest : goal.returns-in-Some-clause-rest
returns-in-Some-clause-rest g c =
    let test = is_shelf c.args.kind c.args.stamp in
    let at = ap (λ r. position test r.shelves) c.self.view_is ∙ sym c.place.ensures ∙ c.in-Some.is in
    ap (λ ss. record { shelves = ss; room = c.self.inside.shelves.cap }) (changed_at test (shelf_taken c.args.session) c.self.inside.shelves.items c.in-Some.place c.index_mut.result.now c.take_copy.new.self at c.index_mut.ensures.value c.take_copy.ensures.rest)
    ∙ ap (λ r. row_taken c.args.kind c.args.stamp c.args.session r) c.self.view_is

pub returns-in-None-clause-copy : goal.returns-in-None-clause-copy
returns-in-None-clause-copy g c = sym (ap (λ o. option_and_then (copy_of c.args.session) o) (position_none (is_shelf c.args.kind c.args.stamp) c.args.self.now.shelves (sym c.place.ensures ∙ c.in-None.is)).not_found)

pub returns-in-None-clause-rest : goal.returns-in-None-clause-rest
returns-in-None-clause-rest g c = ap (λ ss. record c.args.self.now { shelves = ss }) (sym ((position_none (is_shelf c.args.kind c.args.stamp) c.args.self.now.shelves (sym c.place.ensures ∙ c.in-None.is)).unchanged (shelf_taken c.args.session)))
