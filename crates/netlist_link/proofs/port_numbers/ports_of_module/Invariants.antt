use Rattle.verilog_netlist.specs.NetModules.{module_at}
use Rattle.netlist_link.specs.PortTables.{HoldsNamed, IsPortNamed}
use Rattle.netlist_link.proofs.port_numbers.ports_of_module.Given as goal

abbrev pub invariant-loop-i : goal.invariant-loop-i
invariant-loop-i l = HoldsNamed (IsPortNamed (module_at l.modules l.m).names) l.i l.numbers.entries
