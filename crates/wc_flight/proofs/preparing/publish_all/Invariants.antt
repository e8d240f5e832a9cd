use Rattle.std.proofs.Common.{◌≡◌, take}
use Rattle.wc_flight.proofs.preparing.publish_all.Given as goal

abbrev pub invariant-loop-entry : goal.invariant-loop-entry
invariant-loop-entry l = l.pen ≡ record { desk = l.desk; seen = take l.entry-index l.entries }
