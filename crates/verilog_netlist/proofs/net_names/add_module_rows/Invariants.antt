-- What the entries so far say of the names.
use Rattle.std.proofs.Common.{◌≡◌, ◌++◌, take, map}
use Rattle.verilog_netlist.specs.NameRows.{keys_of, view_row, facts_in}
use Rattle.verilog_netlist.proofs.net_names.add_module_rows.Given as goal

abbrev pub invariant-loop-entry : goal.invariant-loop-entry
invariant-loop-entry l = map view_row l.rows.items ≡ map view_row l.fn.rows.items ++ map (facts_in l.bytes (take l.entry-index l.entries)) (keys_of l.texts.keys)
