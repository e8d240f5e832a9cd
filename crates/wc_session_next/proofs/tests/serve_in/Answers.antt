use Rattle.std.proofs.Common.{IfSome, subst}
use Rattle.std.proofs.lemmas.List.Elements.{All-pop}
use Rattle.wc_pass.specs.Known.{KnownPass}
use Rattle.wc_flight.specs.Calls.{IsReady}
use Rattle.wc_session_next.proofs.tests.serve_in.Goals as goal

pub session-requires-clause-ready : goal.session-requires-clause-ready
session-requires-clause-ready g c κs within =
    let P : KnownPass → Type 0 = IsReady g.N.Named.desk g.N.Named.opening in
    let last = All-pop P _ _ _ c.pop.ensures.items c.new-workspace.ensures.all.ready in
    subst (λ r. IfSome r P) c.in-Some.is last.1
