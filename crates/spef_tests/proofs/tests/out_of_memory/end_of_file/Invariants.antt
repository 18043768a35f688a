use Rattle.spef_tests.proofs.tests.out_of_memory.end_of_file.Given as goal

abbrev pub ghosts-end_of_net : goal.ghosts-end_of_net
ghosts-end_of_net a = record { name = a.blank.name; parts = a.blank.parts }
