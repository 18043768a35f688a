use Rattle.std.proofs.Common.{◌≡◌, ℕ, ◌<◌, List, length, map, take}
use Rattle.rc_tree.specs.Nodes.{Node, node_of, with_nodes}
use Rattle.rc_tree.specs.ListedPins.{listed_pins, other_place, IsWithin}
use Rattle.rc_tree.specs.Marking.{Marked}
use Rattle.rc_tree.proofs.marking.mark_sinks.Given as goal

-- the sinks so far
abbrev pub invariant-loop-sink : goal.invariant-loop-sink
invariant-loop-sink g l = record {
  size : length l.numbered.spots.items ≡ length l.section.nodes;
  within : (k : ℕ) → k < l.sink → IsWithin l.section (other_place l.pins.driver k);
  marked : (nodes : List Node) → Marked 4294967295 l.section.nodes nodes l.fn.numbered.spots.items l.fn.numbered.count
      → Marked 4294967295 l.section.nodes (with_nodes nodes (map node_of (take l.sink (listed_pins g.C.CornerSet.COUNT l.section l.pins.driver).sinks))) l.numbered.spots.items l.numbered.count;
}
