-- The timing models of one cell at the corners of a run, in order of the corners' numbers.
use Rattle.std.specs.Prelude.{◌≡◌, ℕ, List, [], length, slice_get, All}
use Rattle.std.specs.Option.{option_map_or}
use Rattle.cell_models.specs.Cells.{TimedCell, IsCell}
use Rattle.cell_models.specs.Shapes.{shape_of}
use Rattle.cell_models.specs.declared.cell.Pin.{Pin}
use Rattle.cell_models.specs.declared.cell.Arc.{Arc}
use Rattle.cell_models.specs.declared.shape.Entry.{Entry}

-- the pins at a corner
abbrev pub pins_at : List TimedCell → ℕ → List Pin
pins_at cells corner = option_map_or (λ cell. cell.pins) (slice_get cells corner) []

-- the arcs at a corner
abbrev pub arcs_at : List TimedCell → ℕ → List Arc
arcs_at cells corner = option_map_or (λ cell. cell.arcs) (slice_get cells corner) []

-- the shape at a corner
abbrev pub shape_at : List TimedCell → ℕ → List Entry
shape_at cells corner = option_map_or shape_of (slice_get cells corner) []

-- how many pins there are, at the first corner as at each
abbrev pub pin_count_of : List TimedCell → ℕ
pin_count_of cells = length (pins_at cells 0)

-- how many arcs there are
abbrev pub arc_count_of : List TimedCell → ℕ
arc_count_of cells = length (arcs_at cells 0)

-- each has the shape of the first corner's
abbrev pub AreOneShape : List TimedCell → Type 0
AreOneShape cells = All (λ cell. shape_of cell ≡ shape_at cells 0) cells

-- what the models of one cell keep at so many corners
pub record AreCornerCells (count : ℕ) (cells : List TimedCell) : Type 0 where
  pub every : length cells ≡ count
  pub shaped : AreOneShape cells
  pub whole : All IsCell cells
