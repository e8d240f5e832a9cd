use Rattle.wc_pass.proofs.tests.two_threads_publish_and_meet_a_thousand_times_each.Given as goal

abbrev pub ghosts-run : goal.ghosts-run
ghosts-run g a = record { desk = a.desk }
