-- The names of related pins as they are looked up: the places of those that are input pins.
use Rattle.std.specs.Prelude.{◌≡◌, ℕ, true, false, List, All, Contains, filter, slice_get, Option, Some, None}
use Rattle.std.specs.List.{AllZip}
use Rattle.liberty_tables.specs.declared.faults.CellFault.{CellFault}
use Rattle.liberty_tables.specs.declared.faults.CellFault.TheVariants.{UnknownRelatedPin, OutOfMemory}
use Rattle.timing_arcs.specs.PinModel.{PinEntry}
use Rattle.timing_arcs.specs.DelayGroups.{is_pin_in, is_input_in}

-- at this place stands this name
abbrev pub IsAt : List (List ℕ) → List ℕ → ℕ → Type 0
IsAt names name place = slice_get names place ≡ Some name

-- a name is that of a pin, and this is its place, if it is an input pin
pub data IsPlaceOf (pins : List PinEntry) (names : List (List ℕ)) (name : List ℕ) : Option ℕ → Type 0 where
  input_pin : {place : ℕ} → IsAt names name place → is_pin_in pins name ≡ true → is_input_in pins name ≡ true
      → IsPlaceOf pins names name (Some place)
  other_pin : is_pin_in pins name ≡ true → is_input_in pins name ≡ false → IsPlaceOf pins names name None

-- some names are those of pins, and these are the places of the input pins among them
pub record ArePlaces (pins : List PinEntry) (names : List (List ℕ)) (done : List (List ℕ)) (places : List ℕ) : Type 0 where
  pub known : All (λ name. is_pin_in pins name ≡ true) done
  pub placed : AllZip (IsAt names) (filter (is_input_in pins) done) places

-- why there are no places
pub data IsUnrelated (pins : List PinEntry) (done : List (List ℕ)) : CellFault → Type 0 where
  unknown_name : {name : List ℕ} → Contains done name → is_pin_in pins name ≡ false → IsUnrelated pins done UnknownRelatedPin
  no_places_memory : IsUnrelated pins done OutOfMemory
