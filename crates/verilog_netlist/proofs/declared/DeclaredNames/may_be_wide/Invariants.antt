-- The most bits of the expressions so far.
use Rattle.verilog_netlist.proofs.Ranging.{BoundSoFar}
use Rattle.verilog_netlist.proofs.declared.DeclaredNames.may_be_wide.Given as goal

abbrev pub invariant-loop-entry : goal.invariant-loop-entry
invariant-loop-entry l = BoundSoFar l.bytes l.behind l.self.rows.entries l.width l.entry-index
