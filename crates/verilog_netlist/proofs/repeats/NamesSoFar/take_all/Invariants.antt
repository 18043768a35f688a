-- The names so far, the first of them that is repeated, and those with a range.
use Rattle.verilog_netlist.specs.Namespaces.{IsRepeated}
use Rattle.verilog_netlist.specs.DeclaredNames.{CoversRanged}
use Rattle.verilog_netlist.specs.NameKeys.{keys_in, keeps}
use Rattle.verilog_netlist.proofs.Finding.{IsFirstBelow}
use Rattle.verilog_netlist.proofs.Repeating.{Collected}
use Rattle.verilog_netlist.proofs.repeats.NamesSoFar.take_all.Given as goal

abbrev pub invariant-loop-place : goal.invariant-loop-place
invariant-loop-place l = Collected l.bytes l.entries l.place (keeps l.scopes.instances (keys_in l.self.keys.keys) l.self.ports) l.scopes
    × IsFirstBelow (IsRepeated l.bytes l.entries) l.place l.repeated
    × CoversRanged l.bytes l.entries l.place (keys_in l.ranged.keys)
