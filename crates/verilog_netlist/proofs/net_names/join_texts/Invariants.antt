-- The names that the entries so far join, and their numbers.
use Rattle.std.proofs.Common.{take}
use Rattle.verilog_netlist.specs.NameRows.{keys_of}
use Rattle.verilog_netlist.proofs.Naming.{Joins}
use Rattle.verilog_netlist.proofs.net_names.join_texts.Given as goal

abbrev pub invariant-loop-entry : goal.invariant-loop-entry
invariant-loop-entry l = Joins l.bytes (keys_of l.fn.texts.keys) l.fn.numbers.items (take l.entry-index l.entries) (keys_of l.texts.keys) l.numbers.items
