use Rattle.std.proofs.Common.{◌≡◌, None, Some, MatchOption, sym, ap, subst, ◌∙◌}
use Rattle.std.specs.Option.{option_and_then}
use Rattle.wc_core.specs.Features.{value_of}
use Rattle.wc_core.specs.Inner.Lines.{copy_for}
use Rattle.wc_core.specs.Inner.Shelves.{find_copy}
use Rattle.wc_core.proofs.LineLemmas.{read_is}
use Rattle.wc_core.proofs.store.Store.get.Goals as goal

pub returns-in-Some : goal.returns-in-Some
returns-in-Some g c =
    let read = ap (λ o. option_and_then (λ r. find_copy c.args.kind c.args.stamp c.args.session r.shelves) o) c.in-Some.ensures.value ∙ sym (read_is c.args.name.now (λ r. find_copy c.args.kind c.args.stamp c.args.session r.shelves) c.self.inside.rows.entries) ∙ ap (λ s. copy_for c.args.name.now c.args.kind c.args.stamp c.args.session s.lines) c.self.view_is in
    subst (λ o. MatchOption c.get-in-Some.result (value_of o ≡ None) (λ v. value_of o ≡ Some v.now)) read c.get-in-Some.ensures

pub returns-in-None : goal.returns-in-None
returns-in-None g c =
    let read = ap (λ o. option_and_then (λ r. find_copy c.args.kind c.args.stamp c.args.session r.shelves) o) c.in-None.ensures.value ∙ sym (read_is c.args.name.now (λ r. find_copy c.args.kind c.args.stamp c.args.session r.shelves) c.self.inside.rows.entries) ∙ ap (λ s. copy_for c.args.name.now c.args.kind c.args.stamp c.args.session s.lines) c.self.view_is in
    ap value_of (sym read)
