-- None of the names so far lacks its pair.
use Rattle.std.proofs.Common.{None}
use Rattle.verilog_netlist.specs.Directions.{IsUnpaired}
use Rattle.verilog_netlist.proofs.Finding.{IsFirstBelow}
use Rattle.verilog_netlist.proofs.Repeating.{Counts}
use Rattle.verilog_netlist.proofs.repeats.NamesSoFar.first_unpaired.Given as goal

abbrev pub invariant-loop-place : goal.invariant-loop-place
invariant-loop-place l = Counts l.entries l.place l.scopes × IsFirstBelow (IsUnpaired l.bytes l.entries) l.place None
