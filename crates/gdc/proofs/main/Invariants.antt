use Rattle.gdc.proofs.main.Given as goal

abbrev pub ghosts-run_real : goal.ghosts-run_real
ghosts-run_real a = record { name = a.blank.name; parts = a.blank.parts }
