use Rattle.order_tests.proofs.tests.asking.slews_of.Given as goal

abbrev pub ghosts-slews_by : goal.ghosts-slews_by
ghosts-slews_by a = record { name = a.blank.name; parts = a.blank.parts }
