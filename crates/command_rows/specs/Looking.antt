-- One edge of an arc, looked up.
use Rattle.std.specs.Prelude.{◌≡◌, ℕ, List}
use Rattle.nldm_lookup.specs.Interpolant.{IsInterpolant}
use Rattle.corner_set.specs.declared.choices.Beyond.{Beyond}
use Rattle.nldm_lookup.specs.declared.grain.Grain.TheVariants.{Atto, Femto}
use Rattle.cell_models.specs.declared.cell.Arc.{Arc}
use Rattle.cell_models.specs.declared.cell.EdgeTables.{EdgeTables}
use Rattle.cell_models.specs.declared.cell.Pin.{Pin}
use Rattle.command_rows.specs.ArcRows.{IsNamed}
use Rattle.command_rows.specs.declared.arc_rows.ArcRow.{ArcRow}
use Rattle.command_rows.specs.declared.arc_rows.Looked.{Looked}
use Rattle.cell_models.specs.declared.edge.Edge.{Edge}

-- what both tables say
pub record IsLooked (slew load : ℕ) (beyond : Beyond) (tables : EdgeTables) (looked : Looked) : Type 0 where
  pub delay : IsInterpolant tables.delay slew load Femto beyond looked.delay
  pub transition : IsInterpolant tables.slew slew load Atto beyond looked.slew.0

-- the row of it
pub record IsRowOf (pins : List Pin) (arc : Arc) (edge : Edge) (looked : Looked) (row : ArcRow) : Type 0 where
  pub from : IsNamed pins arc.from row.from
  pub to : IsNamed pins arc.to row.to
  pub same_edge : row.edge ≡ edge
  pub delay : row.delay ≡ looked.delay
  pub slew : row.slew ≡ looked.slew
