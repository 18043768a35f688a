use Rattle.std.proofs.Common.{◌≡◌, false, take}
use Rattle.name_table.specs.NodeKeys.{among}
use Rattle.spef_nets.proofs.node_table.place_among.Given as goal

abbrev pub invariant-loop-place : goal.invariant-loop-place
invariant-loop-place l = among l.key (take l.place l.few) ≡ false
