use Rattle.liberty_tests.proofs.tests.lookups.looked_past.Given as goal

abbrev pub ghosts-looked_by : goal.ghosts-looked_by
ghosts-looked_by a = record { name = a.blank.name; parts = a.blank.parts }
