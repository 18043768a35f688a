use Rattle.netlist_link.specs.Designs.{HoldAllPorts}
use Rattle.netlist_link.proofs.design_tables.all_ports.Given as goal

abbrev pub invariant-loop-m : goal.invariant-loop-m
invariant-loop-m l = HoldAllPorts l.modules l.m l.ports.items
