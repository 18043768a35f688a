-- The names of the cells met so far, of which some are marked.
use Rattle.std.proofs.Common.{◌≡◌}
use Rattle.hierarchy.specs.InstanceCells.{AreMarked}
use Rattle.hierarchy.proofs.Meeting.{cells_by}
use Rattle.hierarchy.proofs.uses.cells_along.Given as goal

abbrev pub invariant-loop-met : goal.invariant-loop-met
invariant-loop-met l = (l.names ≡ cells_by l.modules l.top l.met-index) × AreMarked l.cells.names l.marks.items l.names
