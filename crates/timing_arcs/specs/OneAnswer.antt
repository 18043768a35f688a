-- That a cell of a library has one answer: a model, or one fault.
use Rattle.std.specs.Prelude.{◌≡◌, ◌≢◌, ℕ, List}
use Rattle.liberty_groups.specs.Groups.{Group}
use Rattle.cell_models.specs.Cells.{TimedCell}
use Rattle.timing_arcs.specs.CellFaults.{IsCellFault}
use Rattle.timing_arcs.specs.CellModel.{IsModel}
use Rattle.liberty_tables.specs.declared.faults.CellFault.{CellFault}
use Rattle.liberty_tables.specs.declared.faults.CellFault.TheVariants.{OutOfMemory}

-- a cell that has a model has no fault, want of memory aside
abbrev pub NoFaultBeside : Type 0
NoFaultBeside = (library : Group) (name : List ℕ) (cell : TimedCell) (fault : CellFault) → IsModel library name cell
    → IsCellFault library name fault → fault ≡ OutOfMemory

-- two faults of a cell are one, where neither is want of memory
abbrev pub OneFault : Type 0
OneFault = (library : Group) (name : List ℕ) (one other : CellFault) → IsCellFault library name one → IsCellFault library name other
    → one ≢ OutOfMemory → other ≢ OutOfMemory → one ≡ other

-- two models of a cell are one
abbrev pub OneModel : Type 0
OneModel = (library : Group) (name : List ℕ) (one other : TimedCell) → IsModel library name one → IsModel library name other → one ≡ other
