-- What the arcs of a cell are read from.
use Rattle.std.specs.Prelude.{◌≡◌, ℕ, List, length, All}
use Rattle.std.specs.List.{AllZip}
use Rattle.liberty_groups.specs.Groups.{Group}
use Rattle.liberty_groups.specs.Tables.{Tables, tree_of, group_at, IsGroup}
use Rattle.liberty_groups.specs.declared.rows.GroupId.{GroupId}
use Rattle.liberty_tables.specs.LibraryUnits.{AreUnits}
use Rattle.liberty_tables.specs.declared.library_units.LibraryUnits.{LibraryUnits}
use Rattle.cell_models.specs.declared.cell.Pin.{Pin}
use Rattle.timing_arcs.specs.PinModel.{PinEntry, IsPin}
use Rattle.timing_arcs.specs.PinTable.{entries_in}
use Rattle.timing_arcs.specs.DelayGroups.{DelayGroup}

-- the tree of its library and the units there; the names of its pins, the group of each, and the pins
pub record CellParts : Type 0 where
  pub tree : Tables
  pub units : LibraryUnits
  pub names : List (List ℕ)
  pub groups : List GroupId
  pub pins : List Pin

abbrev pub library_of : CellParts → Group
library_of cell = tree_of cell.tree

abbrev pub entries_of : CellParts → List PinEntry
entries_of cell = entries_in cell.tree cell.names cell.groups

-- a group of the pin of a name
abbrev pub delay_at : CellParts → List ℕ → GroupId → DelayGroup
delay_at cell name group = record { to = name; group = group_at cell.tree group.0 }

-- the units are the library's, and each pin is that of a name and a group
pub record IsReading (cell : CellParts) : Type 0 where
  pub known : AreUnits (library_of cell) cell.units
  pub even : length cell.names ≡ length cell.groups
  pub counted : length cell.groups ≡ length cell.pins
  pub within : All (λ (id : GroupId). IsGroup cell.tree id.0) cell.groups
  pub pins : AllZip (IsPin (library_of cell)) (entries_of cell) cell.pins
