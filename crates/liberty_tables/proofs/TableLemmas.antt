-- The exits of the search for a table.
use Rattle.std.proofs.Common.{ℕ, List, ℤ, Result, Ok, Err}
use Rattle.liberty_groups.specs.Groups.{Attribute, Group}
use Rattle.nldm_lookup.specs.Tables.{TimingTable, IsTableFault, value_count, no_memory}
use Rattle.nldm_lookup.specs.declared.table.Order.{Order}
use Rattle.nldm_lookup.specs.declared.faults.TableFault.{TableFault}
use Rattle.liberty_tables.specs.Kept.{table_refusal}
use Rattle.liberty_tables.specs.FullTables.{IsFullTable, full, wrong_count, no_room}
use Rattle.liberty_tables.specs.TableModel.{table_over, HasAxes, value_pieces, ValuesMean, TableMeans, not_full, is_table, no_table_memory}
use Rattle.liberty_tables.specs.declared.library_units.LibraryUnits.{LibraryUnits}
use Rattle.liberty_tables.specs.declared.table_names.TableNames.{TableNames}
use Rattle.liberty_tables.specs.declared.templates.Variables.{Variables}
use Rattle.liberty_tables.specs.declared.faults.CellFault.{CellFault}

-- values that are no table over two axes
pub refused_table : (slew load : List ℕ) (order : Order) (values : List ℤ) (fault : TableFault) → IsTableFault slew load values fault → IsFullTable (record { slew = slew; load = load; order = order; values = values }) (Err (table_refusal fault))
refused_table slew load order values _ (value_count other) = wrong_count other
refused_table slew load order values _ no_memory = no_room

-- the last exits: a table, or why its values do not fill it
pub filled : (called : TableNames) (library table : Group) (units : LibraryUnits) (template : List Attribute) (variables : Variables) (first second : List ℕ) (values : List ℤ) (answer : Result TimingTable CellFault)
    → HasAxes called library table units template variables first second → ValuesMean units.time (value_pieces table) (Ok values) → IsFullTable (table_over variables.first first second values) answer → TableMeans called library table units answer
filled called library table units template variables first second values _ axes means (full is) = is_table template variables first second values axes means is
filled called library table units template variables first second values _ axes means (wrong_count other) = not_full template variables first second values axes means other
filled called library table units template variables first second values _ axes means no_room = no_table_memory
