use Rattle.std.proofs.Common.{is_some, sym, ap, ◌∙◌}
use Rattle.std.specs.Prelude.{position}
use Rattle.std.specs.List.{find}
use Rattle.wc_core.specs.Inner.Works.{is_of}
use Rattle.wc_core.proofs.PlaceLemmas.{has_place}
use Rattle.wc_core.proofs.works.Works.has.Goals as goal

pub returns : goal.returns
returns g c =
    c.is_some.ensures ∙ ap is_some (c.place_of.ensures ∙ ap (position (λ w. is_of c.args.kind (g.W.Work.kind_of w, g.W.Work.runs_of w))) c.as_slice.ensures.value)
    ∙ has_place (λ w. (g.W.Work.kind_of w, g.W.Work.runs_of w)) c.args.kind c.self.inside.home.items
    ∙ ap (λ v. is_some (find (is_of c.args.kind) v.home)) c.self.view_is
