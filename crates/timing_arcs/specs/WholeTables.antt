-- The tables of a cell's model are whole: their axes rise, and each pair of points has its value.
use Rattle.std.specs.Prelude.{ℕ, List, All, IfSome}
use Rattle.liberty_groups.specs.Groups.{Group}
use Rattle.nldm_lookup.specs.Tables.{IsTable}
use Rattle.cell_models.specs.Cells.{TimedCell}
use Rattle.cell_models.specs.declared.cell.Arc.{Arc}
use Rattle.cell_models.specs.declared.cell.EdgeTables.{EdgeTables}
use Rattle.timing_arcs.specs.CellModel.{IsModel}

-- both tables of an edge
pub record AreTables (tables : EdgeTables) : Type 0 where
  pub delay : IsTable tables.delay
  pub slew : IsTable tables.slew

-- the tables of an arc
pub record HasTables (arc : Arc) : Type 0 where
  pub rise : IfSome arc.rise AreTables
  pub fall : IfSome arc.fall AreTables

-- the tables of all arcs of a model
abbrev pub WholeTables : Type 0
WholeTables = (library : Group) (name : List ℕ) (cell : TimedCell) → IsModel library name cell → All HasTables cell.arcs
