-- The pins of a cell (Liberty, pin): their names, directions and capacitances.
use Rattle.std.specs.Prelude.{◌≡◌, ℕ, ◌≤◌, ℤ, pos, ◌≤ℤ◌, Bool, true, false, if◌then◌else◌, List, [], ◌∷◌, ◌++◌, map, flat_map, fold, Option, Some, None, option_to_list, option_and_then, bytes_eq, codes}
use Rattle.std.specs.List.{list_any}
use Rattle.delay_units.specs.Reading.{ReadsAs}
use Rattle.delay_units.specs.declared.numbers.Unit.{Unit}
use Rattle.nldm_lookup.specs.Axes.{most}
use Rattle.liberty_groups.specs.Groups.{Group, args_of}
use Rattle.cell_models.specs.declared.cell.Direction.{Direction}
use Rattle.cell_models.specs.declared.cell.Direction.TheVariants.{Input, Output, Inout, Internal}
use Rattle.cell_models.specs.declared.cell.Pin.{Pin}
use Rattle.liberty_tables.specs.Library.{groups_named, value_in}
use Rattle.liberty_tables.specs.LibraryUnits.{IsLoadUnit}

-- a pin: a name of a `pin` group, and the group
pub record PinEntry : Type 0 where
  pub name : List ℕ
  pub group : Group

-- each name of a `pin` group is a pin
abbrev pub entries_of : Group → List PinEntry
entries_of pin = map (λ name. record { name = name; group = pin }) (args_of pin)

abbrev pub is_pin_of : List ℕ → PinEntry → Bool
is_pin_of name entry = bytes_eq entry.name name

-- a name's first group counts
abbrev pub with_entry : List PinEntry → PinEntry → List PinEntry
with_entry entries entry = if list_any (is_pin_of entry.name) entries then entries else entries ++ entry ∷ []

-- the pins of a cell, in the order of their groups and names
unfoldable pub pins_of : Group → List PinEntry
pins_of cell = fold with_entry [] (flat_map entries_of (groups_named (codes "pin") cell))

abbrev pub direction_named : List ℕ → Option Direction
direction_named text =
    if bytes_eq text (codes "input") then Some Input
    else if bytes_eq text (codes "output") then Some Output
    else if bytes_eq text (codes "inout") then Some Inout
    else if bytes_eq text (codes "internal") then Some Internal
    else None

unfoldable pub direction_of : Group → Option Direction
direction_of pin = option_and_then direction_named (value_in (codes "direction") pin)

abbrev pub is_input : Option Direction → Bool
is_input (Some Input) = true
is_input _ = false

abbrev pub is_output : Option Direction → Bool
is_output (Some Output) = true
is_output _ = false

abbrev pub or_else : List (List ℕ) → List (List ℕ) → List (List ℕ)
or_else [] others = others
or_else (text ∷ more) others = text ∷ more

-- The texts that give an input pin its capacitance: its own, else those of its rise and its fall, else the library's default.
abbrev pub default_texts : Group → List (List ℕ)
default_texts library = option_to_list (value_in (codes "default_input_pin_cap") library)

abbrev pub edges_texts : Group → Group → List (List ℕ)
edges_texts library pin =
    or_else (option_to_list (value_in (codes "rise_capacitance") pin) ++ option_to_list (value_in (codes "fall_capacitance") pin))
    (default_texts library)

abbrev pub capacitance_texts : Group → Group → List (List ℕ)
capacitance_texts library pin = or_else (option_to_list (value_in (codes "capacitance") pin)) (edges_texts library pin)

-- the largest reading of the texts, or 0 where there is none
pub data IsLargest (unit : Unit) : List (List ℕ) → ℤ → Type 0 where
  no_text : IsLargest unit [] (pos 0)
  one_text : {text : List ℕ} {v : ℤ} → ReadsAs unit text v → IsLargest unit (text ∷ []) v
  first_text : {text other : List ℕ} {v w : ℤ} → ReadsAs unit text v → ReadsAs unit other w → w ≤ℤ v → IsLargest unit (text ∷ other ∷ []) v
  second_text : {text other : List ℕ} {v w : ℤ} → ReadsAs unit text v → ReadsAs unit other w → v ≤ℤ w → IsLargest unit (text ∷ other ∷ []) w

-- the capacitance that the texts give: from 0 to a nanofarad
pub record IsCapacitance (unit : Unit) (texts : List (List ℕ)) (grains : ℕ) : Type 0 where
  pub largest : IsLargest unit texts (pos grains)
  pub within : grains ≤ most

-- the capacitance of an input pin, in the unit of the library
pub record IsInputCapacitance (library pin : Group) (grains : ℕ) : Type 0 where
  pub unit : Unit
  pub of_library : IsLoadUnit library unit
  pub given : IsCapacitance unit (capacitance_texts library pin) grains

-- every other pin has none
abbrev pub IsPinCapacitance : Direction → Group → Group → ℕ → Type 0
IsPinCapacitance Input library pin grains = IsInputCapacitance library pin grains
IsPinCapacitance Output library pin grains = grains ≡ 0
IsPinCapacitance Inout library pin grains = grains ≡ 0
IsPinCapacitance Internal library pin grains = grains ≡ 0

pub record IsPin (library : Group) (entry : PinEntry) (pin : Pin) : Type 0 where
  pub name : pin.name ≡ entry.name
  pub direction : direction_of entry.group ≡ Some pin.direction
  pub capacitance : IsPinCapacitance pin.direction library entry.group pin.cap.0
