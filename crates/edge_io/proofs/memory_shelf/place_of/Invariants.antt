use Rattle.edge_io.proofs.Places.{IsPlaceAmong}
use Rattle.edge_io.proofs.memory_shelf.place_of.Given as goal

abbrev pub invariant-loop-place : goal.invariant-loop-place
invariant-loop-place l = IsPlaceAmong l.place l.files l.name l.found
