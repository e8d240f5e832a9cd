use Rattle.wc_flight.proofs.tests.notes.noted.Given as goal

abbrev pub ghosts-told : goal.ghosts-told
ghosts-told g a = record { desk = a.prepared.desk; opening = a.prepared.opening }
