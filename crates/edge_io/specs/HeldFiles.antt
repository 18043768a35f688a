-- A list of files as what a shelf holds: the last of a name counts.
use Rattle.std.specs.Prelude.{◌≡◌, ℕ, ◌<◌, ◌≤◌, List, [], length, reverse, drop, get_or, find, Option, Some, None, option_map}
use Rattle.std.specs.Str.{bytes_eq}
use Rattle.edge_io.specs.Holding.{Held}
use Rattle.edge_io.specs.declared.memory_shelf.HeldFile.{HeldFile}

-- the bytes of the last file of each name
abbrev pub held_in : List HeldFile → Held
held_in files name = option_map (λ file. file.bytes) (find (λ file. bytes_eq file.name name) (reverse files))

-- the bytes of the file at a place
abbrev pub bytes_at : List HeldFile → ℕ → List ℕ
bytes_at files place = (get_or files place record { name = []; bytes = [] }).bytes

-- the place of the file of that name, if there is one
abbrev pub IsPlaceOf : List HeldFile → List ℕ → Option ℕ → Type 0
IsPlaceOf files name None = held_in files name ≡ None
IsPlaceOf files name (Some place) = (place < length files) × (held_in files name ≡ Some (bytes_at files place))

-- what is left of the open file, of which so many bytes were read
abbrev pub left_of : List HeldFile → Option ℕ → ℕ → List ℕ
left_of files None at = []
left_of files (Some place) at = drop at (bytes_at files place)

-- the open file is held, and no more of it was read than it has
abbrev pub IsOpen : List HeldFile → Option ℕ → ℕ → Type 0
IsOpen files None at = Unit {0}
IsOpen files (Some place) at = (place < length files) × (at ≤ length (bytes_at files place))
