-- The phase that makes the models of the cells that a design uses, in the order in which it uses them.
use Rattle.std.specs.Prelude.{◌≡◌, ℕ, List, length, take, slice_get, Some, Result, Ok, Err}
use Rattle.liberty_groups.specs.Groups.{Group}
use Rattle.cell_models.specs.Cells.{TimedCell}
use Rattle.cell_models.specs.CornerCells.{AreOneShape}
use Rattle.cell_models.specs.Joining.{IsShapeFault}
use Rattle.cell_models.specs.NamedSets.{NamedCells, set_names}
use Rattle.cell_models.specs.declared.shape.ShapeFault.{ShapeFault}
use Rattle.design_phases.specs.LibraryPhases.{ModelsCell}
use Rattle.refusals.specs.declared.refusal.Refusal.{Refusal}
use Rattle.refusals.specs.declared.refusal.Refusal.TheVariants.{CornerShape}

-- the library of a corner has this model of the cell of a name
pub record IsModelAt (libraries : List Group) (name : List ℕ) (corner : ℕ) (cell : TimedCell) : Type 0 where
  pub library : Group
  pub stands : slice_get libraries corner ≡ Some library
  pub models : ModelsCell corner library name (Ok cell)

-- the models of the cell of a name at the first corners, so many of them
pub record AreFirstModels (libraries : List Group) (name : List ℕ) (count : ℕ) (cells : List TimedCell) : Type 0 where
  pub counted : length cells ≡ count
  pub each : (corner : ℕ) (cell : TimedCell) → slice_get cells corner ≡ Some cell → IsModelAt libraries name corner cell

-- the models of the cell of a name at all corners, which have one shape; or that of the first corner that refuses it; or the first corner
-- at which the shape is another
pub data ModelsCorners (libraries : List Group) (name : List ℕ) : Result (List TimedCell) Refusal → Type 0 where
  at_all : (cells : List TimedCell) → AreFirstModels libraries name (length libraries) cells → AreOneShape cells
      → ModelsCorners libraries name (Ok cells)
  at_corner : (corner : ℕ) (before : List TimedCell) (library : Group) (refusal : Refusal) → AreFirstModels libraries name corner before
      → slice_get libraries corner ≡ Some library → ModelsCell corner library name (Err refusal)
      → ModelsCorners libraries name (Err refusal)
  other_shape : (cells : List TimedCell) (fault : ShapeFault) → AreFirstModels libraries name (length libraries) cells
      → IsShapeFault cells fault → ModelsCorners libraries name (Err (CornerShape name fault))

-- the first cells that are used have these models, so many of them
pub record AreFirstCells (libraries : List Group) (used : List (List ℕ)) (count : ℕ) (sets : List NamedCells) : Type 0 where
  pub named : set_names sets ≡ take count used
  pub each : (place : ℕ) (set : NamedCells) → slice_get sets place ≡ Some set → ModelsCorners libraries set.name (Ok set.cells)

-- all cells that are used have these models, or the first that has none is refused
pub data ModelsCells (libraries : List Group) (used : List (List ℕ)) : Result (List NamedCells) Refusal → Type 0 where
  all_cells : (sets : List NamedCells) → AreFirstCells libraries used (length used) sets → ModelsCells libraries used (Ok sets)
  at_cell : (place : ℕ) (name : List ℕ) (before : List NamedCells) (refusal : Refusal) → AreFirstCells libraries used place before
      → slice_get used place ≡ Some name → ModelsCorners libraries name (Err refusal) → ModelsCells libraries used (Err refusal)
