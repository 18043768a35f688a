use Rattle.netlist_link.specs.NamePlaces.{HoldPlaces}
use Rattle.netlist_link.proofs.flat_bits.place_names.Given as goal

abbrev pub invariant-loop-m : goal.invariant-loop-m
invariant-loop-m l = HoldPlaces l.modules l.m l.places
