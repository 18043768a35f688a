-- The pieces of a text between bytes that part them, as the items of a list.
use Rattle.std.specs.Prelude.{ℕ, Bool, true, false, List, [], ◌∷◌, filter}
use Rattle.std.specs.List.{slice_split}

abbrev pub is_filled : List ℕ → Bool
is_filled [] = false
is_filled (first ∷ rest) = true

-- the pieces between the bytes that part them; empty ones are dropped
unfoldable pub pieces_between : (ℕ → Bool) → List ℕ → List (List ℕ)
pieces_between parts text = filter is_filled (slice_split parts text)
