-- None of the entries so far is bad.
use Rattle.std.proofs.Common.{None}
use Rattle.verilog_netlist.specs.Ranges.{IsBadRange}
use Rattle.verilog_netlist.proofs.Finding.{IsFirstBelow}
use Rattle.verilog_netlist.proofs.Repeating.{Counts}
use Rattle.verilog_netlist.proofs.declared.DeclaredNames.first_bad_range.Given as goal

abbrev pub invariant-loop-place : goal.invariant-loop-place
invariant-loop-place l = Counts l.entries l.place l.scopes × IsFirstBelow (IsBadRange l.bytes l.entries) l.place None
