-- That a group of a library means one table, or one fault.
use Rattle.std.specs.Prelude.{◌≡◌, ◌≢◌, Result, Err}
use Rattle.liberty_groups.specs.Groups.{Group}
use Rattle.nldm_lookup.specs.Tables.{TimingTable}
use Rattle.liberty_tables.specs.TableModel.{TableMeans, TransitionMeans}
use Rattle.liberty_tables.specs.declared.library_units.LibraryUnits.{LibraryUnits}
use Rattle.liberty_tables.specs.declared.table_names.TableNames.{TableNames}
use Rattle.liberty_tables.specs.declared.faults.CellFault.{CellFault}
use Rattle.liberty_tables.specs.declared.faults.CellFault.TheVariants.{OutOfMemory}

-- two answers are one, where neither is want of memory
abbrev pub AreOne : {A : Type 0} → Result A CellFault → Result A CellFault → Type 0
AreOne one other = one ≢ Err OutOfMemory → other ≢ Err OutOfMemory → one ≡ other

abbrev pub OneTable : Type 0
OneTable = (called : TableNames) (library table : Group) (units : LibraryUnits) (one other : Result TimingTable CellFault)
    → TableMeans called library table units one
    → TableMeans called library table units other → AreOne one other

abbrev pub OneTransition : Type 0
OneTransition = (called : TableNames) (library table : Group) (units : LibraryUnits) (one other : Result TimingTable CellFault)
    → TransitionMeans called library table units one → TransitionMeans called library table units other → AreOne one other
