-- The row so far has the numbers of the instances so far.
use Rattle.hierarchy.specs.InstanceCells.{Grows, HasNumbers}
use Rattle.hierarchy.proofs.instance_cells.number_instances.Given as goal

abbrev pub invariant-loop-k : goal.invariant-loop-k
invariant-loop-k l = HasNumbers l.modules l.numbering.names l.m l.k l.row.items × Grows l.fn.numbering.names l.numbering.names
