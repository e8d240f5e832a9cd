use Rattle.wc_session_next.proofs.tests.serve.Given as goal

abbrev pub ghosts-serve_in : goal.ghosts-serve_in
ghosts-serve_in g a = record { desk = a.prepared.desk; opening = a.prepared.opening }
