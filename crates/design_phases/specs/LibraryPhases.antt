-- The phases that read a Liberty library.
use Rattle.std.specs.Prelude.{◌≢◌, ℕ, List, Result, Ok, Err}
use Rattle.liberty_groups.specs.Answers.{SaysTree}
use Rattle.liberty_groups.specs.Causes.{IsFault}
use Rattle.liberty_groups.specs.Groups.{Group}
use Rattle.liberty_groups.specs.declared.faults.SyntaxFault.{SyntaxFault}
use Rattle.timing_arcs.specs.CellFaults.{IsCellFault}
use Rattle.timing_arcs.specs.CellModel.{IsModel}
use Rattle.cell_models.specs.Cells.{TimedCell}
use Rattle.liberty_tables.specs.declared.faults.CellFault.{CellFault}
use Rattle.liberty_tables.specs.declared.faults.CellFault.TheVariants.{NoSuchCell, OutOfMemory}
use Rattle.refusals.specs.declared.refusal.Refusal.{Refusal}
use Rattle.refusals.specs.declared.refusal.Refusal.TheVariants as refusal

-- the bytes of the library of a corner are a Liberty file, which says this tree, or they leave its grammar at a token, whose line and
-- cause are these
pub data ParsesLibrary (corner : ℕ) (bytes : List ℕ) : Result Group Refusal → Type 0 where
  is_library : (library : Group) → SaysTree bytes library → ParsesLibrary corner bytes (Ok library)
  is_no_library : (fault : SyntaxFault) → IsFault bytes fault
      → ParsesLibrary corner bytes (Err (refusal.LibrarySyntax corner fault.token fault.line fault.cause))

-- the library of a corner has this model of the cell of a name, or no cell of that name, or the model has this first fault
pub data ModelsCell (corner : ℕ) (library : Group) (name : List ℕ) : Result TimedCell Refusal → Type 0 where
  has_model : (cell : TimedCell) → IsModel library name cell → ModelsCell corner library name (Ok cell)
  no_cell : IsCellFault library name NoSuchCell → ModelsCell corner library name (Err (refusal.UnknownCell name corner))
  no_model : (fault : CellFault) → fault ≢ NoSuchCell → fault ≢ OutOfMemory → IsCellFault library name fault
      → ModelsCell corner library name (Err (refusal.CellFault name corner fault))
