-- The names of the cells of the instances so far, of which some are marked.
use Rattle.std.proofs.Common.{◌≡◌}
use Rattle.hierarchy.specs.InstanceCells.{AreMarked}
use Rattle.hierarchy.proofs.Meeting.{cells_by}
use Rattle.hierarchy.proofs.uses.cells_of_one.Given as goal

abbrev pub invariant-loop-instance : goal.invariant-loop-instance
invariant-loop-instance l = (l.names ≡ cells_by l.modules l.top l.instance) × AreMarked l.cells.names l.marks.items l.names
