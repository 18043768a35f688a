-- The indices so far are different, and their numbers go up to the last.
use Rattle.spef_text.proofs.MapLemmas.{Rises}
use Rattle.spef_text.proofs.name_map.rising_runs.Given as goal

abbrev pub invariant-loop-place : goal.invariant-loop-place
invariant-loop-place l = Rises l.file l.entries l.place l.last
