use Rattle.wc_flight.proofs.tests.scenes.played.Given as goal

abbrev pub ghosts-play : goal.ghosts-play
ghosts-play g a = record { desk = a.prepared.desk; opening = a.prepared.opening }
