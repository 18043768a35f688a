use Rattle.spef_tests.proofs.tests.nets.is_as.Given as goal

abbrev pub ghosts-has_elements : goal.ghosts-has_elements
ghosts-has_elements a = record { name = a.blank.name; parts = a.blank.parts }
