-- The rows so far.
use Rattle.std.proofs.Common.{◌≡◌, ◌++◌, take, map}
use Rattle.verilog_netlist.specs.NameRows.{keys_of, view_row, fresh}
use Rattle.verilog_netlist.proofs.net_names.add_rows.Given as goal

abbrev pub invariant-loop-text : goal.invariant-loop-text
invariant-loop-text l = map view_row l.rows.items ≡ map view_row l.fn.rows.items ++ map fresh (keys_of (take l.text-index l.texts.keys))
