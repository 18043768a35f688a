-- The rows so far are those of the modules so far.
use Rattle.std.proofs.Common.{map}
use Rattle.hierarchy.specs.InstanceCells.{HaveRows}
use Rattle.hierarchy.proofs.instance_cells.number_all.Given as goal

abbrev pub invariant-loop-m : goal.invariant-loop-m
invariant-loop-m l = HaveRows l.modules l.numbering.names l.m (map (λ row. row.items) l.rows.items)
