use Rattle.netlist_link.specs.Designs.{OfCells, AreJoined}
use Rattle.netlist_link.proofs.checking.join_instance.Given as goal

abbrev pub invariant-loop-c : goal.invariant-loop-c
invariant-loop-c l = OfCells l.design l.i l.cell (AreJoined l.design l.i l.c l.fn.numbers.items l.numbers.items)
