-- The first declarations so far, and the most bits of one.
use Rattle.verilog_netlist.specs.DeclaredNames.{HoldsDeclared, BoundsWidths}
use Rattle.verilog_netlist.specs.NameKeys.{keys_in}
use Rattle.verilog_netlist.proofs.Repeating.{Counts}
use Rattle.verilog_netlist.proofs.declared.DeclaredNames.add_all.Given as goal

abbrev pub invariant-loop-place : goal.invariant-loop-place
invariant-loop-place l = Counts l.entries l.place l.scopes × HoldsDeclared l.bytes l.entries (keys_in l.ranged.keys) l.place l.self.rows.entries × BoundsWidths l.bytes l.self.rows.entries l.self.widest
