-- The cells of a design, each with its name and its timing models at the corners.
use Rattle.std.specs.Prelude.{ℕ, List, map}
use Rattle.cell_models.specs.Cells.{TimedCell}

pub record NamedCells : Type 0 where
  pub name : List ℕ
  pub cells : List TimedCell

abbrev pub set_names : List NamedCells → List (List ℕ)
set_names sets = map (λ set. set.name) sets

abbrev pub set_cells : List NamedCells → List (List TimedCell)
set_cells sets = map (λ set. set.cells) sets
