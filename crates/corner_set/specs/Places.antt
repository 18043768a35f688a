-- Where a grid keeps its values: rows one after another, and within a row the corners in order of their numbers.
use Rattle.std.specs.Prelude.{ℕ, ◌+◌, ◌*◌, ◌≤◌, List, length, Option, slice_get}

-- the place of a corner's value in a row, with so many corners
abbrev pub place : ℕ → ℕ → ℕ → ℕ
place count row number = row * count + number

-- the grid has this row: all its corners lie within
abbrev pub HasRow : {T : Type 0} → ℕ → List T → ℕ → Type 0
HasRow count grid row = row * count + count ≤ length grid

-- the value of a row at a corner
abbrev pub value_at : {T : Type 0} → ℕ → List T → ℕ → ℕ → Option T
value_at count grid row number = slice_get grid (place count row number)
