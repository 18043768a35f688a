-- The numbers of one corner, in a list of numbers by row and corner; the values of a tree at one corner.
use Rattle.std.specs.Prelude.{◌≡◌, ◌≢◌, ℕ, ◌<◌, List, length, slice_index}
use Rattle.corner_set.specs.Places.{place}
use Rattle.rc_tree.specs.Values.{farads_at, ohms_at}
use Rattle.rc_tree.specs.Arenas.{Arena}

-- the number of a row at a corner; 0 where there is none
abbrev pub column : ℕ → List ℕ → ℕ → ℕ → ℕ
column count values number row = slice_index values (place count row number)

abbrev pub farads_of : ℕ → Arena → ℕ → ℕ → ℕ
farads_of count arena number node = farads_at count arena.farads node number

abbrev pub ohms_of : ℕ → Arena → ℕ → ℕ → ℕ
ohms_of count arena number node = ohms_at count arena.ohms node number

-- the numbers of all other corners are as they were, and there are as many
pub record KeepsOthers (count : ℕ) (before after : List ℕ) (number : ℕ) : Type 0 where
  pub size : length after ≡ length before
  pub others : (row other : ℕ) → other < count → other ≢ number → column count after other row ≡ column count before other row
