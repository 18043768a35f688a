-- The tables of the entries so far.
use Rattle.verilog_netlist.specs.PartPlaces.{HoldsPlaces}
use Rattle.verilog_netlist.proofs.places.collect_places.Given as goal

abbrev pub invariant-loop-place : goal.invariant-loop-place
invariant-loop-place l = HoldsPlaces l.entries l.place l.places
