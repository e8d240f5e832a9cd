use Rattle.std.proofs.Common.{◌≡◌, None, Some, MatchOption, sym, ap, subst, ◌∙◌}
use Rattle.std.specs.Option.{option_and_then}
use Rattle.std.specs.List.{slice_index_or}
use Rattle.wc_core.specs.Features.{value_of}
use Rattle.wc_core.specs.Inner.Shelves.{copy_of, is_shelf}
use Rattle.wc_core.proofs.FirstLemmas.{position_none, read_at}
use Rattle.wc_core.proofs.rows.Row.get.Goals as goal

pub returns-in-Some : goal.returns-in-Some
returns-in-Some g c =
    let test = is_shelf c.args.kind c.args.stamp in
    let at = sym c.place.ensures ∙ c.in-Some.is in
    let read = read_at test (copy_of c.args.session) c.args.self.now.shelves c.in-Some.place c.index.result.now at (c.index.ensures ∙ ap (λ r. slice_index_or r.shelves c.in-Some.place c.index.result.now) c.self.view_is) in
    subst (λ o. MatchOption c.get.result (value_of o ≡ None) (λ v. value_of o ≡ Some v.now)) read c.get.ensures

pub returns-in-None : goal.returns-in-None
returns-in-None g c = ap (λ o. value_of (option_and_then (copy_of c.args.session) o)) (position_none (is_shelf c.args.kind c.args.stamp) c.args.self.now.shelves (sym c.place.ensures ∙ c.in-None.is)).not_found
