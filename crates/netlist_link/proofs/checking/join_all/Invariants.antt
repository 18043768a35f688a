use Rattle.netlist_link.specs.Designs.{OverCells, HoldsJoints}
use Rattle.netlist_link.proofs.checking.join_all.Given as goal

abbrev pub invariant-loop-i : goal.invariant-loop-i
invariant-loop-i l = OverCells l.design (HoldsJoints l.design l.i l.starts.items l.numbers.items l.places.items)
