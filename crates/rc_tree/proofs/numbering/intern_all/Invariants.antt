use Rattle.std.proofs.Common.{◌≡◌, map, take}
use Rattle.rc_tree.specs.Nodes.{node_of, with_nodes}
use Rattle.rc_tree.specs.PinNames.{pin_name}
use Rattle.rc_tree.proofs.numbering.intern_all.Given as goal

-- the names so far
abbrev pub invariant-loop-name : goal.invariant-loop-name
invariant-loop-name l = l.table ≡ with_nodes l.fn.table (map node_of (take l.name-index (map pin_name l.names)))
