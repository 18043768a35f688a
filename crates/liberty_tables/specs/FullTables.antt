-- A table with a value for each point, or why there is none.
use Rattle.std.specs.Prelude.{Result, Ok, Err}
use Rattle.nldm_lookup.specs.Tables.{TimingTable}
use Rattle.liberty_tables.specs.TableModel.{IsFull}
use Rattle.liberty_tables.specs.declared.faults.CellFault.{CellFault}
use Rattle.liberty_tables.specs.declared.faults.CellFault.TheVariants.{BadTable, OutOfMemory}

pub data IsFullTable (table : TimingTable) : Result TimingTable CellFault → Type 0 where
  full : IsFull table → IsFullTable table (Ok table)
  wrong_count : ¬ IsFull table → IsFullTable table (Err BadTable)
  no_room : IsFullTable table (Err OutOfMemory)
