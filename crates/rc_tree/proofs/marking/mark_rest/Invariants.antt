use Rattle.std.proofs.Common.{◌≡◌, List, length, map, take}
use Rattle.rc_tree.specs.Nodes.{Node, node_of, with_nodes}
use Rattle.rc_tree.specs.Marking.{Marked}
use Rattle.rc_tree.proofs.marking.mark_rest.Given as goal

-- the nodes so far
abbrev pub invariant-loop-node : goal.invariant-loop-node
invariant-loop-node g l = record {
  size : length l.numbered.spots.items ≡ length l.section.nodes;
  marked : (nodes : List Node) → Marked 4294967295 l.section.nodes nodes l.fn.numbered.spots.items l.fn.numbered.count
      → Marked 4294967295 l.section.nodes (with_nodes nodes (map node_of (take l.node l.section.nodes))) l.numbered.spots.items l.numbered.count;
}
