-- A table of names, seen as the list of its texts.
use Rattle.std.specs.Prelude.{ℕ, ◌≢◌, List, AllPairs}

-- no text stands twice, so that each has one number
abbrev pub AreDistinct : List (List ℕ) → Type 0
AreDistinct names = AllPairs (λ one other. one ≢ other) names
