-- The numbers of the modules so far.
use Rattle.verilog_netlist.specs.ModuleTables.{modules_in}
use Rattle.verilog_netlist.specs.ModuleNumbers.{HoldsNumbers}
use Rattle.verilog_netlist.proofs.modules.number_modules.Given as goal

abbrev pub invariant-loop-m : goal.invariant-loop-m
invariant-loop-m l = HoldsNumbers (modules_in l.tables) l.m l.numbers.entries
