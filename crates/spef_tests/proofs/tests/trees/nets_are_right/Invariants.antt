use Rattle.spef_tests.proofs.tests.trees.nets_are_right.Given as goal

abbrev pub ghosts-are_right : goal.ghosts-are_right
ghosts-are_right a = record { name = a.blank.name; parts = a.blank.parts }
