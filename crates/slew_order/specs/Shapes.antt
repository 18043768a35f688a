-- The shapes of cells at all corners.
use Rattle.std.specs.Prelude.{ℕ, ◌<◌, List, [], length, get_or}
use Rattle.cell_models.specs.CornerCells.{AreCornerCells}
use Rattle.cell_models.specs.NamedSets.{NamedCells, set_cells}

-- each cell has one shape at so many corners
abbrev pub AreShaped : ℕ → List NamedCells → Type 0
AreShaped count cells = (cell : ℕ) → cell < length cells → AreCornerCells count (get_or (set_cells cells) cell [])
