-- The expressions in front of the whole are those so far and those in front of the rest.
use Rattle.std.proofs.Common.{length, ◌≡◌, ◌+◌, ◌-◌, ◌≤◌, drop}
use Rattle.std.specs.List.{prefix_len}
use Rattle.verilog_netlist.specs.Parts.{is_expression}
use Rattle.verilog_netlist.proofs.tables.expressions_in_front.Given as goal

abbrev pub invariant-loop-count : goal.invariant-loop-count
invariant-loop-count l = record { within : l.count ≤ length l.entries; so_far : prefix_len is_expression l.entries ≡ l.count + prefix_len is_expression (drop l.count l.entries) }

abbrev pub decreases-loop-count : goal.decreases-loop-count
decreases-loop-count l = length l.entries - l.count
