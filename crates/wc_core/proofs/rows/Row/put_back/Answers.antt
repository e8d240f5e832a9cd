use Rattle.std.proofs.Common.{sym, ap, ◌∙◌}
use Rattle.std.specs.Prelude.{position}
use Rattle.wc_core.specs.Inner.Shelves.{is_shelf, row_filled, shelf_filled}
use Rattle.wc_core.proofs.FirstLemmas.{changed_at, position_none}
use Rattle.wc_core.proofs.rows.Row.put_back.Goals as goal

pub returns-in-Some : goal.returns-in-Some
returns-in-Some g c =
    let test = is_shelf c.args.kind c.args.stamp in
    let at = ap (λ r. position test r.shelves) c.self.view_is ∙ sym c.place.ensures ∙ c.in-Some.is in
    ap (λ ss. record { shelves = ss; room = c.self.inside.shelves.cap }) (changed_at test (shelf_filled c.args.session c.args.copy) c.self.inside.shelves.items c.in-Some.place c.index_mut.result.now c.put_copy.new.self at c.index_mut.ensures.value c.put_copy.ensures)
    ∙ ap (λ r. row_filled c.args.kind c.args.stamp c.args.session c.args.copy r) c.self.view_is

pub returns-in_default : goal.returns-in_default
returns-in_default g c = ap (λ ss. record c.args.self.now { shelves = ss }) (sym ((position_none (is_shelf c.args.kind c.args.stamp) c.args.self.now.shelves (sym c.place.ensures ∙ c.in_default.is)).unchanged (shelf_filled c.args.session c.args.copy)))
