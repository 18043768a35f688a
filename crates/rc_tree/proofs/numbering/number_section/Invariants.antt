use Rattle.std.proofs.Common.{◌≡◌}
use Rattle.rc_tree.proofs.SectionNumbers.{Numbering}
use Rattle.rc_tree.proofs.numbering.number_section.Given as goal

abbrev pub invariant-loop-node : goal.invariant-loop-node
invariant-loop-node g l = record {
  numbering : Numbering l.section.nodes l.table l.spots.items l.count l.node;
  keys : l.keys ≡ l.section.nodes;
}
