-- How many steps the commands `wires` and `lookup` take at the most: the work that their files give.
use Rattle.std.specs.Prelude.{ℕ, ◌*◌, List, length, Option, Ok}
use Rattle.edge_io.specs.Holding.{Held}
use Rattle.verdict_phases.specs.Phases.{Go}
use Rattle.wire_phases.specs.SpefPhases.{ReadsSpefFile}
use Rattle.wire_phases.specs.SpefWork.{TextWork}
use Rattle.command_rows.specs.CommandRows.{ReadsLib}
use Rattle.liberty_groups.specs.Groups.{Group}
use Rattle.cell_models.specs.Cells.{TimedCell}
use Rattle.spef_nets.specs.Sections.{Corners}
use Rattle.command_rows.specs.ArcRows.{arc_edges}
use Rattle.design_phases.specs.LibraryPhases.{ParsesLibrary, ModelsCell}

-- the work of `wires` at these corners: none before the SPEF file is read, and then that of its bytes
pub data WiresWork {I : Type 0} (corners : Corners I) (held : Option Held) (name : List ℕ) : ℕ → Type 0 where
  no_file : WiresWork corners held name 0
  of_file : {work : ℕ} (bytes : List ℕ) → ReadsSpefFile held name (Go bytes) → TextWork corners bytes work
      → WiresWork corners held name work

-- the work of the bytes of the library of a corner: none before the model of the cell is made, and then 64 steps at the most for each
-- edge of its arcs
pub data CellWork (corner : ℕ) (name bytes : List ℕ) : ℕ → Type 0 where
  no_model_yet : CellWork corner name bytes 0
  of_model : (library : Group) (cell : TimedCell) → ParsesLibrary corner bytes (Ok library) → ModelsCell corner library name (Ok cell)
      → CellWork corner name bytes (64 * length (arc_edges cell.arcs))

-- the work of `lookup` at a corner, in a run with so many corners: none before the library is read, and then that of its bytes
pub data LookupWork (corners corner : ℕ) (held : Option Held) (file name : List ℕ) : ℕ → Type 0 where
  no_library : LookupWork corners corner held file name 0
  of_library : {work : ℕ} (bytes : List ℕ) → ReadsLib corners corner held file (Go bytes) → CellWork corner name bytes work
      → LookupWork corners corner held file name work
