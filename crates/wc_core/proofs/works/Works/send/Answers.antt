use Rattle.std.proofs.Common.{rules, ◌≡◌, map, is_some, sym, ap, subst, ◌∙◌}
use Rattle.std.specs.Prelude.{position}
use Rattle.std.specs.List.{find}
use Rattle.std.specs.Option.{unwrap_or}
use Rattle.wc_core.specs.Inner.Works.{IsTaken, is_of}
use Rattle.wc_core.proofs.PlaceLemmas.{IsPlace, taken_at, work_place}
use Rattle.wc_core.proofs.works.Works.send.Goals as goal

pub returns-clause-kind : goal.returns-clause-kind
returns-clause-kind g c =
    let items = c.self.inside.home.items in
    let is = ap (λ v. is_some (find (is_of c.args.kind) v.home)) c.self.view_is ∙ c.requires in
    let at = c.unwrap_or-place.ensures ∙ ap (λ o. unwrap_or o 0) (c.place_of.ensures ∙ ap (position (λ w. is_of c.args.kind (g.W.Work.kind_of w, g.W.Work.runs_of w))) c.as_slice.ensures.value) in
    let place = subst (λ m. IsPlace (λ w. is_of c.args.kind (g.W.Work.kind_of w, g.W.Work.runs_of w)) items m) (sym at) (work_place (λ w. (g.W.Work.kind_of w, g.W.Work.runs_of w)) c.args.kind items is) in
    (taken_at (λ w. (g.W.Work.kind_of w, g.W.Work.runs_of w)) c.args.kind items c.unwrap_or-place.result c.remove-work.result c.remove-work.new.self.items place c.remove-work.ensures.value c.remove-work.ensures.items).0

pub returns-clause-sent : goal.returns-clause-sent
returns-clause-sent g c =
    let items = c.self.inside.home.items in
    let is = ap (λ v. is_some (find (is_of c.args.kind) v.home)) c.self.view_is ∙ c.requires in
    let at = c.unwrap_or-place.ensures ∙ ap (λ o. unwrap_or o 0) (c.place_of.ensures ∙ ap (position (λ w. is_of c.args.kind (g.W.Work.kind_of w, g.W.Work.runs_of w))) c.as_slice.ensures.value) in
    let place = subst (λ m. IsPlace (λ w. is_of c.args.kind (g.W.Work.kind_of w, g.W.Work.runs_of w)) items m) (sym at) (work_place (λ w. (g.W.Work.kind_of w, g.W.Work.runs_of w)) c.args.kind items is) in
    let both = taken_at (λ w. (g.W.Work.kind_of w, g.W.Work.runs_of w)) c.args.kind items c.unwrap_or-place.result c.remove-work.result c.remove-work.new.self.items place c.remove-work.ensures.value c.remove-work.ensures.items in
    record { taken = subst (λ v. IsTaken c.args.kind (g.W.Work.runs_of c.remove-work.result) v.home (map (λ w. (g.W.Work.kind_of w, g.W.Work.runs_of w)) c.remove-work.new.self.items)) c.self.view_is both.1; out = search rules }
