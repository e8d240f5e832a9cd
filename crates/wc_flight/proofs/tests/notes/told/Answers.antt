use Rattle.std.proofs.Common.{◌≡◌, IfSome, subst}
use Rattle.std.proofs.lemmas.List.Elements.{All-pop}
use Rattle.wc_pass.specs.Known.{KnownPass}
use Rattle.wc_flight.specs.Calls.{IsReady}
use Rattle.wc_flight.proofs.tests.notes.told.Goals as goal

pub learned-requires : goal.learned-requires
learned-requires g c =
    let P : KnownPass → Type 0 = IsReady g.N.Named.desk g.N.Named.opening in
    let last = All-pop P _ _ _ c.pop.ensures.items c.new-workspace.ensures.all.ready in
    let other = All-pop P _ _ _ c.pop-2.ensures.items last.0 in
    (subst (λ r. IfSome r P) c.in-Some-Some.is-1 other.1, subst (λ r. IfSome r P) c.in-Some-Some.is-0 last.1)
