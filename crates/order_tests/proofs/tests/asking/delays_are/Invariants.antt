use Rattle.order_tests.proofs.tests.asking.delays_are.Given as goal

abbrev pub ghosts-delays_by : goal.ghosts-delays_by
ghosts-delays_by g a = record { name = a.blank.name; parts = a.blank.parts }
