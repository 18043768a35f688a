-- Rows of which every name is well spelled in SDF (IEEE 1497-2001).
use Rattle.std.specs.Prelude.{◌≡◌, ◌≢◌, ℕ, ◌<◌, List, [], Some, All}
use Rattle.cell_models.specs.NamedSets.{NamedCells}
use Rattle.name_table.specs.WellSpelled.{IsWellSpelled}
use Rattle.netlist_link.specs.FlatNetlist.{FlatNetlist}
use Rattle.sdf_writer.specs.SdfText.{WireRow, PathRow, SdfRows}
use Rattle.slew_order.specs.FlatArcs.{net_on}
use Rattle.annotation_rows.specs.Annotation.{annotation_of}
use Rattle.annotation_rows.specs.PathRows.{TimedDesign}
use Rattle.annotation_rows.specs.RowLaws.{IsSlewed}
use Rattle.annotation_rows.specs.SdfEnds.{pin_name}

-- the spelling of each instance and of each bit of a port is well spelled, and each pin that is on a net has a name
pub record AreNamesSpelled (cells : List NamedCells) (netlist : FlatNetlist) : Type 0 where
  pub instances : All (λ instance. IsWellSpelled instance.sdf) netlist.instances
  pub ports : All (λ port. IsWellSpelled port.sdf) netlist.ports
  pub pins : (instance pin net : ℕ) → net_on netlist instance pin ≡ Some net → pin_name cells netlist instance pin ≢ []

pub record IsWireSpelled (row : WireRow) : Type 0 where
  pub from : IsWellSpelled row.from
  pub to : IsWellSpelled row.to

-- The type of a cell is a plain text, which may be any.
pub record IsPathSpelled (row : PathRow) : Type 0 where
  pub instance : IsWellSpelled row.instance
  pub from : IsWellSpelled row.from
  pub to : IsWellSpelled row.to

-- the name of the design may be any text
pub record AreRowsSpelled (rows : SdfRows) : Type 0 where
  pub wires : All IsWireSpelled rows.wires
  pub paths : All IsPathSpelled rows.paths

-- where the names of a netlist are well spelled, and it has slews, so are those in its rows
abbrev pub SpelledRows : Type 0
SpelledRows = (name : List ℕ) (design : TimedDesign) → IsSlewed design → 0 < design.source.count
    → AreNamesSpelled design.source.cells design.source.netlist → AreRowsSpelled (annotation_of name design)
