-- The bits of the expressions so far.
use Rattle.std.proofs.Common.{ℕ, List}
use Rattle.verilog_netlist.specs.DeclaredNames.{declared_key, row_at}
use Rattle.verilog_netlist.proofs.Ranging.{WidthSoFar}
use Rattle.verilog_netlist.proofs.declared.DeclaredNames.is_wide.Given as goal

abbrev pub invariant-loop-entry : goal.invariant-loop-entry
invariant-loop-entry l = WidthSoFar l.bytes (λ (name : List ℕ). row_at l.self.rows.entries (declared_key l.scope name)) l.behind l.width l.entry-index
