-- The names of the modules so far.
use Rattle.verilog_netlist.specs.NameRows.{HoldsNetNames}
use Rattle.verilog_netlist.proofs.net_names.collect_net_names.Given as goal

abbrev pub invariant-loop-m : goal.invariant-loop-m
invariant-loop-m l = HoldsNetNames l.bytes l.entries l.places l.m l.names
