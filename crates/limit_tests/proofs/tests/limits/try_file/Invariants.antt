use Rattle.limit_tests.proofs.tests.limits.try_file.Given as goal

abbrev pub ghosts-try_in : goal.ghosts-try_in
ghosts-try_in a = record { name = a.blank.name; parts = a.blank.parts }
