-- The modules of the names so far.
use Rattle.hierarchy.specs.InstanceCells.{HaveLowers}
use Rattle.hierarchy.proofs.instance_cells.lowers_named.Given as goal

abbrev pub invariant-loop-n : goal.invariant-loop-n
invariant-loop-n l = HaveLowers l.modules l.names l.n l.lowers.items
