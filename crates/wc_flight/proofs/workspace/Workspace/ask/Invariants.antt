use Rattle.wc_flight.specs.Inner.Holds.{IsUnderway}
use Rattle.wc_flight.proofs.workspace.Workspace.ask.Given as goal

abbrev pub invariant-loop : goal.invariant-loop
invariant-loop g l = IsUnderway g.W.Work.is_feature g.N.Named.desk g.N.Named.opening l.fn.pass l.pass l.name l.ticket
