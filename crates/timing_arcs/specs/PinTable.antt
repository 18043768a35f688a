-- The names of a cell's pins, as they are kept: each name, and the number of its group.
use Rattle.std.specs.Prelude.{◌≡◌, ℕ, List, [], ◌∷◌, length, All}
use Rattle.liberty_groups.specs.Groups.{Group}
use Rattle.liberty_groups.specs.Tables.{Tables, group_at, IsGroup}
use Rattle.liberty_groups.specs.declared.rows.GroupId.{GroupId}
use Rattle.timing_arcs.specs.PinModel.{PinEntry, pins_of}

abbrev pub entry_at : Tables → List ℕ → GroupId → PinEntry
entry_at tree name id = record { name = name; group = group_at tree id.0 }

unfoldable pub entries_in : Tables → List (List ℕ) → List GroupId → List PinEntry
entries_in tree [] ids = []
entries_in tree (name ∷ names) [] = []
entries_in tree (name ∷ names) (id ∷ ids) = entry_at tree name id ∷ entries_in tree names ids

-- they are the pins of a cell
pub record ArePins (tree : Tables) (cell : Group) (names : List (List ℕ)) (ids : List GroupId) : Type 0 where
  pub entries : entries_in tree names ids ≡ pins_of cell
  pub even : length names ≡ length ids
  pub within : All (λ (id : GroupId). IsGroup tree id.0) ids
