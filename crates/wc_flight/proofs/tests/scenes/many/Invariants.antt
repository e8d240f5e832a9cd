use Rattle.std.proofs.Common.{◌≡◌}
use Rattle.wc_flight.specs.Calls.{IsReady}
use Rattle.wc_flight.proofs.tests.scenes.many.Given as goal

abbrev pub invariant-loop-turn : goal.invariant-loop-turn
invariant-loop-turn g l = IsReady g.N.Named.desk g.N.Named.opening l.pass × (l.pass.session ≡ l.fn.pass.session)
