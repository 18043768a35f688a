-- Why a cell has no timing model: what is asked of its library, one after another, and the first answer that is a fault.
use Rattle.std.specs.Prelude.{◌≡◌, ℕ, true, false, if◌then◌else◌, List, [], ◌∷◌, ◌++◌, All, Contains, flat_map, Option, Some, None, Ok, Err, codes}
use Rattle.delay_units.specs.declared.numbers.Unit.{Unit}
use Rattle.liberty_groups.specs.Groups.{Group}
use Rattle.nldm_lookup.specs.Tables.{TimingTable}
use Rattle.cell_models.specs.declared.cell.Direction.{Direction}
use Rattle.liberty_tables.specs.declared.faults.CellFault.{CellFault}
use Rattle.liberty_tables.specs.declared.faults.CellFault.TheVariants.{NoSuchCell, BadUnit, BadDirection, BadNumber, UnknownRelatedPin, NoTransition, OutOfMemory}
use Rattle.liberty_tables.specs.Library.{cell_group, first_group}
use Rattle.liberty_tables.specs.LibraryUnits.{IsTimeUnit, IsLoadUnit, AreUnits}
use Rattle.timing_arcs.specs.PinModel.{PinEntry, pins_of, direction_of, is_input, capacitance_texts, IsCapacitance}
use Rattle.timing_arcs.specs.DelayGroups.{DelayGroup, delays_of, related_names, is_pin_in}
use Rattle.timing_arcs.specs.DelayTables.{delay_names}
use Rattle.liberty_tables.specs.TableModel.{TableMeans, TransitionMeans}
use Rattle.liberty_tables.specs.declared.library_units.LibraryUnits.{LibraryUnits}

-- What is asked: the unit of times, that of loads; the direction of a `pin` group, its capacitance; whether the names in `related_pin` are
-- pins, a delay table, whether a transition table stands beside it, and what that says.
pub data Question : Type 0 where
  time_unit : Question
  load_unit : Question
  direction : Group → Question
  capacitance : Group → Question
  related_pins : List PinEntry → Group → Question
  table : Group → Question
  transition : Question
  transition_table : Group → Question

-- of the units
abbrev pub unit_questions : List Question
unit_questions = time_unit ∷ load_unit ∷ []

-- of a pin
abbrev pub pin_questions : PinEntry → List Question
pin_questions entry = direction entry.group ∷ (if is_input (direction_of entry.group) then capacitance entry.group ∷ [] else [])

-- of an edge, which has a delay table and then a transition table
abbrev pub edge_questions : Option Group → Option Group → List Question
edge_questions None slew = []
edge_questions (Some delay) None = table delay ∷ transition ∷ []
edge_questions (Some delay) (Some slew) = table delay ∷ transition_table slew ∷ []

abbrev pub rise_questions : Group → List Question
rise_questions timing = edge_questions (first_group (codes "cell_rise") timing) (first_group (codes "rise_transition") timing)

abbrev pub fall_questions : Group → List Question
fall_questions timing = edge_questions (first_group (codes "cell_fall") timing) (first_group (codes "fall_transition") timing)

-- of a delay group
abbrev pub delay_questions : List PinEntry → DelayGroup → List Question
delay_questions pins delay = related_pins pins delay.group ∷ (rise_questions delay.group ++ fall_questions delay.group)

-- of a cell: of its pins, and then of its delay groups
unfoldable pub cell_questions : Group → List Question
cell_questions cell = flat_map pin_questions (pins_of cell) ++ flat_map (delay_questions (pins_of cell)) (delays_of cell)

abbrev pub questions_of : Group → List Question
questions_of cell = unit_questions ++ cell_questions cell

-- a question has an answer that is no fault
pub data IsSound (library : Group) : Question → Type 0 where
  time_known : {unit : Unit} → IsTimeUnit library unit → IsSound library time_unit
  load_known : {unit : Unit} → IsLoadUnit library unit → IsSound library load_unit
  directed : {pin : Group} {way : Direction} → direction_of pin ≡ Some way → IsSound library (direction pin)
  measured : {pin : Group} {unit : Unit} {grains : ℕ} → IsLoadUnit library unit → IsCapacitance unit (capacitance_texts library pin) grains
      → IsSound library (capacitance pin)
  related : {pins : List PinEntry} {group : Group} → All (λ name. is_pin_in pins name ≡ true) (related_names group)
      → IsSound library (related_pins pins group)
  tabled : {group : Group} {units : LibraryUnits} {made : TimingTable} → AreUnits library units
      → TableMeans delay_names library group units (Ok made) → IsSound library (table group)
  transition_known : {group : Group} {units : LibraryUnits} {made : TimingTable} → AreUnits library units
      → TransitionMeans delay_names library group units (Ok made) → IsSound library (transition_table group)

-- a question has this fault
pub data IsFaulty (library : Group) : Question → CellFault → Type 0 where
  no_time_unit : ((unit : Unit) → ¬ IsTimeUnit library unit) → IsFaulty library time_unit BadUnit
  no_load_unit : ((unit : Unit) → ¬ IsLoadUnit library unit) → IsFaulty library load_unit BadUnit
  no_direction : {pin : Group} → direction_of pin ≡ None → IsFaulty library (direction pin) BadDirection
  no_capacitance : {pin : Group} {unit : Unit} → IsLoadUnit library unit
      → ((grains : ℕ) → ¬ IsCapacitance unit (capacitance_texts library pin) grains) → IsFaulty library (capacitance pin) BadNumber
  unrelated : {pins : List PinEntry} {group : Group} {name : List ℕ} → Contains (related_names group) name → is_pin_in pins name ≡ false
      → IsFaulty library (related_pins pins group) UnknownRelatedPin
  bad_table : {group : Group} {units : LibraryUnits} {fault : CellFault} → AreUnits library units
      → TableMeans delay_names library group units (Err fault) → IsFaulty library (table group) fault
  missing_transition : IsFaulty library transition NoTransition
  bad_transition : {group : Group} {units : LibraryUnits} {fault : CellFault} → AreUnits library units
      → TransitionMeans delay_names library group units (Err fault) → IsFaulty library (transition_table group) fault

-- the first question that has a fault has this one
pub record IsFirstFault (library : Group) (questions : List Question) (fault : CellFault) : Type 0 where
  pub before : List Question
  pub question : Question
  pub behind : List Question
  pub split : questions ≡ before ++ question ∷ behind
  pub sound : All (IsSound library) before
  pub faulty : IsFaulty library question fault

-- Why some questions cannot all be answered. Want of memory alone may come at any time.
pub data IsRefusal (library : Group) (questions : List Question) : CellFault → Type 0 where
  first_fault : {fault : CellFault} → IsFirstFault library questions fault → IsRefusal library questions fault
  no_memory : IsRefusal library questions OutOfMemory

-- why there is no model of the cell of a name
pub data IsCellFault (library : Group) (name : List ℕ) : CellFault → Type 0 where
  no_such_cell : cell_group library name ≡ None → IsCellFault library name NoSuchCell
  fault_of : {group : Group} {fault : CellFault} → cell_group library name ≡ Some group → IsRefusal library (questions_of group) fault
      → IsCellFault library name fault
  no_cell_memory : IsCellFault library name OutOfMemory
