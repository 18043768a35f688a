-- How the text of a file grows while what is left of the file shrinks; nothing is said of a shelf that does not tell.
use Rattle.std.specs.Prelude.{◌≡◌, ℕ, ◌+◌, ◌<◌, List, ◌++◌, length, drop, Option, Some, None}

-- what was left is the text
abbrev pub IsAllLeft : Option (List ℕ) → List ℕ → Type 0
IsAllLeft None text = Unit {0}
IsAllLeft (Some left) text = left ≡ text

-- more was left than that, and one byte more than that was taken of it
abbrev pub LeftMore : Option (List ℕ) → ℕ → Option (List ℕ) → Type 0
LeftMore None limit after = Unit {0}
LeftMore (Some left) limit after = (limit < length left) × (after ≡ Some (drop (limit + 1) left))

-- bytes went from what was left to the end of the text
abbrev pub Moves : Option (List ℕ) → List ℕ → Option (List ℕ) → List ℕ → Type 0
Moves None text left' text' = left' ≡ None
Moves (Some left) text None text' = ⊥
Moves (Some left) text (Some left') text' = text ++ left ≡ text' ++ left'
