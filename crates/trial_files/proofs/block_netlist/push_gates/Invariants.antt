-- The last inverters stand, as many as are written.
use Rattle.std.proofs.Common.{◌≡◌, ◌+◌, ◌-◌, ◌++◌, reverse}
use Rattle.std.specs.List.{flat_map, range_with_len}
use Rattle.trial_files.specs.BlockNetlist.{block_gate}
use Rattle.trial_files.proofs.block_netlist.push_gates.Given as goal

abbrev pub invariant-loop-written : goal.invariant-loop-written
invariant-loop-written l =
    l.text ≡ l.initial.text ++ flat_map (block_gate l.size) (reverse (range_with_len (l.size - l.written + 1) l.written))
