use Rattle.wc_pass.proofs.pen.Pen.publish.Given as goal

abbrev pub ghosts-store : goal.ghosts-store
ghosts-store a = record { entry = a.entry.now }
