-- The places of cells, by the names of what instances are of.
use Rattle.std.specs.Prelude.{◌≡◌, ℕ, ◌<◌, List, length, slice_get, slice_index, Some, Contains}
use Rattle.std.specs.List.{position_or_len}
use Rattle.std.specs.Str.{bytes_eq}

-- the place of a cell of this name
pub record IsPlaceOf (cell_names : List (List ℕ)) (name : List ℕ) (place : ℕ) : Type 0 where
  pub is : place ≡ position_or_len (bytes_eq name) cell_names
  pub below : place < length cell_names

-- of the first so many names, each that is a cell's has its place
pub record HoldCellPlaces (cell_names names : List (List ℕ)) (many : ℕ) (places : List ℕ) : Type 0 where
  pub count : length places ≡ many
  pub each : (n : ℕ) (name : List ℕ) → n < many → slice_get names n ≡ Some name → Contains cell_names name
      → IsPlaceOf cell_names name (slice_index places n)

abbrev pub AreCellPlaces : List (List ℕ) → List (List ℕ) → List ℕ → Type 0
AreCellPlaces cell_names names = HoldCellPlaces cell_names names (length names)
