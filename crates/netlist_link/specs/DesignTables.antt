-- The tables of a design.
use Rattle.std.specs.Prelude.{◌≡◌, ℕ, List, [], length}
use Rattle.cell_models.specs.NamedSets.{NamedCells, set_names}
use Rattle.verilog_netlist.specs.NetModules.{NetModule}
use Rattle.hierarchy.specs.WalkTables.{AreTablesOfWalk}
use Rattle.hierarchy.specs.InstanceCells.{AreInstanceCells}
use Rattle.netlist_link.specs.CellPlaces.{AreCellPlaces}
use Rattle.netlist_link.specs.Designs.{AreAllPorts, HaveDistinctPins}
use Rattle.netlist_link.specs.JointTables.{AreAllPins}
use Rattle.netlist_link.specs.PathTables.{top_of, ArePaths}
use Rattle.netlist_link.specs.FlatNetlist.{FlatNetlist}
use Rattle.netlist_link.specs.Links.{IsNetlistOf}
use Rattle.netlist_link.specs.LinkEnds.{all_faults, IsLinkEnd}
use Rattle.netlist_link.specs.declared.checking.Design.{Design}
use Rattle.netlist_link.specs.declared.ends.LinkEnd.{LinkEnd}
use Rattle.netlist_link.specs.declared.design_tables.DesignTables.{DesignTables}

-- the tables are those of the design of this top over these cells, and the names of the pins of each cell differ
pub record AreTablesOf (modules : List NetModule) (top : ℕ) (cells : List NamedCells) (tables : DesignTables) : Type 0 where
  pub walk : AreTablesOfWalk modules top tables.walk
  pub starts : top_of tables.walk ≡ top
  pub paths : ArePaths modules top tables.paths
  pub instance_cells : AreInstanceCells modules tables.cells
  pub places : AreCellPlaces (set_names cells) tables.cells.names tables.places.items
  pub ports : AreAllPorts modules tables.ports.items
  pub pins : AreAllPins cells (length cells) tables.pins.items
  pub distinct : HaveDistinctPins cells

-- the netlist of a design over these cells, each connection of which can be made
pub record IsLinkedDesign (modules : List NetModule) (top : ℕ) (cells : List NamedCells) (netlist : FlatNetlist) : Type 0 where
  pub faultless : all_faults modules top cells ≡ []
  pub is : IsNetlistOf modules top cells netlist

abbrev pub IsNetlistOver : Design → FlatNetlist → List NamedCells → Type 0
IsNetlistOver d netlist cells = IsLinkedDesign d.modules.now (top_of d.walk.now) cells netlist

abbrev pub IsEndOver : Design → LinkEnd → List NamedCells → Type 0
IsEndOver d end cells = IsLinkEnd d.modules.now (top_of d.walk.now) cells end
