-- What is kept of the pieces of a list that have been read.
use Rattle.std.specs.Prelude.{ℕ, Bool, true, false, ℤ, List, [], ◌++◌, All, Option, unwrap_or, Result, Err}
use Rattle.std.specs.Option.{option_map}
use Rattle.delay_units.specs.declared.numbers.Unit.{Unit}
use Rattle.liberty_groups.specs.Tables.{Tables, attribute_at}
use Rattle.liberty_groups.specs.declared.rows.AttrId.{AttrId}
use Rattle.nldm_lookup.specs.Tables.{IsSmall}
use Rattle.nldm_lookup.specs.declared.faults.TableFault.{TableFault}
use Rattle.nldm_lookup.specs.declared.faults.TableFault.TheVariants.{ValueCount, OutOfMemory as NoRoom}
use Rattle.liberty_tables.specs.NumberLists.{AreReadings, HasNoNumber}
use Rattle.liberty_tables.specs.declared.number_lists.Readings.{Readings}
use Rattle.liberty_tables.specs.declared.faults.CellFault.{CellFault}
use Rattle.liberty_tables.specs.declared.faults.CellFault.TheVariants.{BadNumber, BadAxis, BadTable, OutOfMemory}
use Rattle.nldm_lookup.specs.declared.faults.AxisFault.{AxisFault}
use Rattle.nldm_lookup.specs.declared.faults.AxisFault.TheVariants.{Empty, NotRising, TooLong, OutOfMemory as NoMemory}

-- all readings, where each is within the bound, and else that one is not
pub data AreKept (unit : Unit) (pieces : List (List ℕ)) : Bool → List ℤ → Type 0 where
  all_within : (values : List ℤ) → AreReadings unit pieces values → All IsSmall values → AreKept unit pieces true values
  one_past : (values readings : List ℤ) → AreReadings unit pieces readings → ¬ All IsSmall readings → AreKept unit pieces false values

-- the readings of these pieces too
abbrev pub KeepsMore : Unit → List (List ℕ) → Readings → Readings → Type 0
KeepsMore unit more before after =
    (pieces : List (List ℕ)) → AreKept unit pieces before.within before.values.items
    → AreKept unit (pieces ++ more) after.within after.values.items

-- why there are no readings
pub data IsListFault (pieces : List (List ℕ)) : CellFault → Type 0 where
  unread_piece : HasNoNumber pieces → IsListFault pieces BadNumber
  no_memory : IsListFault pieces OutOfMemory

-- the texts of an attribute, if it stands
abbrev pub texts_of : Tables → Option AttrId → List (List ℕ)
texts_of tree attribute = unwrap_or (option_map (λ a. (attribute_at tree a.0).values) attribute) []

-- what is answered where points are no axis
abbrev pub refusal_of : AxisFault → CellFault
refusal_of Empty = BadAxis
refusal_of (NotRising place) = BadAxis
refusal_of TooLong = BadAxis
refusal_of NoMemory = OutOfMemory

-- and where values are no table over two axes
abbrev pub table_refusal : TableFault → CellFault
table_refusal (ValueCount want got) = BadTable
table_refusal NoRoom = OutOfMemory

-- an answer that is handed out once more, which may take a count that there is not
pub data IsCopy (answer : Result (List ℕ) CellFault) : Result (List ℕ) CellFault → Type 0 where
  is_same : IsCopy answer answer
  no_count : IsCopy answer (Err OutOfMemory)
