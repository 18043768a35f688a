-- A clash of names is why a design has no flat netlist.
use Rattle.std.proofs.Common.{◌≡◌, List, []}
use Rattle.name_table.specs.Names.{AreDistinct}
use Rattle.cell_models.specs.NamedSets.{NamedCells}
use Rattle.netlist_link.specs.LinkEnds.{all_faults, IsLinkEnd, nets_clash, instances_clash, no_memory}
use Rattle.netlist_link.specs.PathTables.{top_of}
use Rattle.netlist_link.specs.Clashes.{IsClash, clash_is, no_room_is, texts_of_nets, texts_of_instances}
use Rattle.netlist_link.specs.declared.checking.Design.{Design}
use Rattle.netlist_link.specs.declared.ends.LinkEnd.{LinkEnd}

module _ (d : Design) (cells : List NamedCells) (faultless : all_faults d.modules.now (top_of d.walk.now) cells ≡ []) where
  pub nets_end : (end : LinkEnd) → IsClash (texts_of_nets d) end → IsLinkEnd d.modules.now (top_of d.walk.now) cells end
  nets_end end (clash_is text is) = nets_clash text faultless is
  nets_end end no_room_is = no_memory

  pub instances_end : (end : LinkEnd) → AreDistinct (texts_of_nets d) → IsClash (texts_of_instances d) end
      → IsLinkEnd d.modules.now (top_of d.walk.now) cells end
  instances_end end distinct (clash_is text is) = instances_clash text faultless distinct is
  instances_end end distinct no_room_is = no_memory
