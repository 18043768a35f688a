use Rattle.slew_tests.proofs.tests.netlists.states_of.Given as goal

abbrev pub ghosts-states_by : goal.ghosts-states_by
ghosts-states_by a = record { name = a.blank.name; parts = a.blank.parts }
