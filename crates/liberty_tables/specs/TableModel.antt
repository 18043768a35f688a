-- What a table group of a library means (Liberty, cell_rise, rise_transition and the like): a timing table, or the fault that is looked for
-- first.
use Rattle.std.specs.Prelude.{◌≡◌, ℕ, ◌*◌, if◌then◌else◌, ℤ, pos, ◌≤ℤ◌, List, [], ◌∷◌, length, map, All, Option, Some, None, unwrap_or, Result, Ok, Err, codes}
use Rattle.delay_units.specs.declared.numbers.Unit.{Unit}
use Rattle.liberty_groups.specs.Groups.{Attribute, Group, attributes_of}
use Rattle.nldm_lookup.specs.Axes.{IsAxis}
use Rattle.nldm_lookup.specs.Tables.{TimingTable, IsSmall}
use Rattle.nldm_lookup.specs.declared.faults.Which.{Which}
use Rattle.nldm_lookup.specs.declared.faults.Which.TheVariants.{Slew, Load}
use Rattle.nldm_lookup.specs.declared.table.Order.TheVariants.{SlewFirst, LoadFirst}
use Rattle.liberty_tables.specs.Attributes.{values_of}
use Rattle.liberty_tables.specs.NumberLists.{pieces_of, AreReadings, HasNoNumber}
use Rattle.liberty_tables.specs.Templates.{template_of, variables_of}
use Rattle.liberty_tables.specs.declared.library_units.LibraryUnits.{LibraryUnits}
use Rattle.liberty_tables.specs.declared.table_names.TableNames.{TableNames}
use Rattle.liberty_tables.specs.declared.templates.Variables.{Variables}
use Rattle.liberty_tables.specs.declared.faults.CellFault.{CellFault}
use Rattle.liberty_tables.specs.declared.faults.CellFault.TheVariants.{BadNumber, UnknownTemplate, UnknownVariable, BadAxis, BadTable, NegativeTransition, OutOfMemory}

-- the unit of an axis: the other one has loads, or times too
abbrev pub unit_of : TableNames → LibraryUnits → Which → Unit
unit_of called units Slew = units.time
unit_of called units Load = if called.other_is_time then units.time else units.load

-- the texts of an index: the table's own in place of the template's
abbrev pub index_of : List ℕ → List Attribute → List Attribute → List (List ℕ)
index_of key table template = unwrap_or (values_of key table) (unwrap_or (values_of key template) [])

-- Some readings as the points of an axis. Want of memory alone may come at any time, here and below.
pub data IsAxisOf (readings : List ℤ) : Result (List ℕ) CellFault → Type 0 where
  are_points : (points : List ℕ) → readings ≡ map pos points → IsAxis points → IsAxisOf readings (Ok points)
  no_axis : ((points : List ℕ) → readings ≡ map pos points → ¬ IsAxis points) → IsAxisOf readings (Err BadAxis)
  no_axis_memory : IsAxisOf readings (Err OutOfMemory)

-- the points of an axis, by the pieces of its index
pub data AxisMeans (unit : Unit) (pieces : List (List ℕ)) : Result (List ℕ) CellFault → Type 0 where
  no_number : HasNoNumber pieces → AxisMeans unit pieces (Err BadNumber)
  of_readings : (readings : List ℤ) (answer : Result (List ℕ) CellFault) → AreReadings unit pieces readings → IsAxisOf readings answer
      → AxisMeans unit pieces answer
  no_index_memory : AxisMeans unit pieces (Err OutOfMemory)

-- the points of the axis of a variable, and the one point 0 where there is no variable
pub data PointsMean (called : TableNames) (units : LibraryUnits) (key : List ℕ) (table template : List Attribute) : Option Which
    → Result (List ℕ) CellFault → Type 0 where
  of_variable : (which : Which) (answer : Result (List ℕ) CellFault)
      → AxisMeans (unit_of called units which) (pieces_of (index_of key table template)) answer
      → PointsMean called units key table template (Some which) answer
  of_none : PointsMean called units key table template None (Ok (0 ∷ []))
  no_points_memory : (which : Option Which) → PointsMean called units key table template which (Err OutOfMemory)

-- the values of a table, by their pieces: each is a number, and its reading is within the bound
pub data ValuesMean (unit : Unit) (pieces : List (List ℕ)) : Result (List ℤ) CellFault → Type 0 where
  are_values : (readings : List ℤ) → AreReadings unit pieces readings → All IsSmall readings → ValuesMean unit pieces (Ok readings)
  no_value : HasNoNumber pieces → ValuesMean unit pieces (Err BadNumber)
  past_bound : (readings : List ℤ) → AreReadings unit pieces readings → ¬ All IsSmall readings → ValuesMean unit pieces (Err BadNumber)
  no_values_memory : ValuesMean unit pieces (Err OutOfMemory)

-- the points of the first and of the second variable as a slew and a load, with the values
abbrev pub table_over : Option Which → List ℕ → List ℕ → List ℤ → TimingTable
table_over (Some Load) first second values = record { slew = second; load = first; order = LoadFirst; values = values }
table_over (Some Slew) first second values = record { slew = first; load = second; order = SlewFirst; values = values }
table_over None first second values = record { slew = first; load = second; order = SlewFirst; values = values }

-- a value for each point of the slew and each of the load
abbrev pub IsFull : TimingTable → Type 0
IsFull table = length table.values ≡ length table.slew * length table.load

-- the template and the variables of a table
pub record HasVariables (called : TableNames) (library table : Group) (template : List Attribute) (variables : Variables) : Type 0 where
  pub named : template_of library table ≡ Some template
  pub known : variables_of called template ≡ Some variables

-- and the points of its first axis
pub record HasFirstAxis (called : TableNames) (library table : Group) (units : LibraryUnits) (template : List Attribute)
    (variables : Variables) (first : List ℕ) : Type 0 where
  pub laid_out : HasVariables called library table template variables
  pub first_axis : PointsMean called units (codes "index_1") (attributes_of table) template variables.first (Ok first)

-- and those of its second
pub record HasAxes (called : TableNames) (library table : Group) (units : LibraryUnits) (template : List Attribute) (variables : Variables)
    (first second : List ℕ) : Type 0 where
  pub begun : HasFirstAxis called library table units template variables first
  pub second_axis : PointsMean called units (codes "index_2") (attributes_of table) template variables.second (Ok second)

-- the pieces of the values of a table
abbrev pub value_pieces : Group → List (List ℕ)
value_pieces table = pieces_of (unwrap_or (values_of (codes "values") (attributes_of table)) [])

-- What a table group means in its library. The faults are looked for in this order: each comes where none before it stands.
pub data TableMeans (called : TableNames) (library table : Group) (units : LibraryUnits) : Result TimingTable CellFault → Type 0 where
  no_template : template_of library table ≡ None → TableMeans called library table units (Err UnknownTemplate)
  no_variables : (template : List Attribute) → template_of library table ≡ Some template → variables_of called template ≡ None
      → TableMeans called library table units (Err UnknownVariable)
  no_first_axis : (template : List Attribute) (variables : Variables) (fault : CellFault)
      → HasVariables called library table template variables
      → PointsMean called units (codes "index_1") (attributes_of table) template variables.first (Err fault)
      → TableMeans called library table units (Err fault)
  no_second_axis : (template : List Attribute) (variables : Variables) (first : List ℕ) (fault : CellFault)
      → HasFirstAxis called library table units template variables first
      → PointsMean called units (codes "index_2") (attributes_of table) template variables.second (Err fault)
      → TableMeans called library table units (Err fault)
  no_values : (template : List Attribute) (variables : Variables) (first second : List ℕ) (fault : CellFault)
      → HasAxes called library table units template variables first second
      → ValuesMean units.time (value_pieces table) (Err fault)
      → TableMeans called library table units (Err fault)
  not_full : (template : List Attribute) (variables : Variables) (first second : List ℕ) (values : List ℤ)
      → HasAxes called library table units template variables first second
      → ValuesMean units.time (value_pieces table) (Ok values)
      → ¬ IsFull (table_over variables.first first second values)
      → TableMeans called library table units (Err BadTable)
  is_table : (template : List Attribute) (variables : Variables) (first second : List ℕ) (values : List ℤ)
      → HasAxes called library table units template variables first second
      → ValuesMean units.time (value_pieces table) (Ok values)
      → IsFull (table_over variables.first first second values)
      → TableMeans called library table units (Ok (table_over variables.first first second values))
  no_table_memory : TableMeans called library table units (Err OutOfMemory)

-- What the group of a transition means: a table as any, and of its faults the last is a value below 0.
pub data TransitionMeans (called : TableNames) (library table : Group) (units : LibraryUnits) : Result TimingTable CellFault → Type 0 where
  no_transition : (fault : CellFault) → TableMeans called library table units (Err fault)
      → TransitionMeans called library table units (Err fault)
  below_zero : (made : TimingTable) → TableMeans called library table units (Ok made) → ¬ All (λ value. pos 0 ≤ℤ value) made.values
      → TransitionMeans called library table units (Err NegativeTransition)
  settled : (made : TimingTable) → TableMeans called library table units (Ok made) → All (λ value. pos 0 ≤ℤ value) made.values
      → TransitionMeans called library table units (Ok made)
