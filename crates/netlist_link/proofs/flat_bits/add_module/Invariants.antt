use Rattle.verilog_netlist.specs.NetModules.{module_at}
use Rattle.netlist_link.specs.NamePlaces.{AddsNames}
use Rattle.netlist_link.proofs.flat_bits.add_module.Given as goal

abbrev pub invariant-loop-i : goal.invariant-loop-i
invariant-loop-i l = AddsNames (module_at l.modules l.m).names l.fn.places l.places l.i l.before
