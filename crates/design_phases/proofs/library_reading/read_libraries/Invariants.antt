-- The libraries of the corners before this one are read.
use Rattle.design_phases.proofs.LibraryLemmas.{Before}
use Rattle.design_phases.proofs.library_reading.read_libraries.Given as goal

abbrev pub invariant-loop-corner : goal.invariant-loop-corner
invariant-loop-corner g l =
    Before (g.H.Shelf.held l.initial.shelf) g.C.CornerSet.COUNT l.names (g.H.Shelf.faults l.initial.shelf) (g.H.Shelf.opens l.initial.shelf) l.corner l.libraries (g.H.Shelf.held l.shelf) (g.H.Shelf.faults l.shelf) (g.H.Shelf.opens l.shelf)
