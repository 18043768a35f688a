-- The names of the group so far.
use Rattle.std.proofs.Common.{◌≡◌, take}
use Rattle.std.specs.Str.{bytes_eq}
use Rattle.indexmap.specs.IndexSet.{insert_all}
use Rattle.verilog_netlist.specs.ModuleNames.{texts_of}
use Rattle.verilog_netlist.specs.NameRows.{keys_of}
use Rattle.verilog_netlist.proofs.net_names.add_texts.Given as goal

abbrev pub invariant-loop-entry : goal.invariant-loop-entry
invariant-loop-entry l = keys_of l.texts.keys ≡ insert_all bytes_eq (keys_of l.fn.texts.keys) (texts_of l.bytes l.group (take l.entry-index l.entries))
