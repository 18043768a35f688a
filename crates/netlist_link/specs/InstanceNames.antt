-- The names of instances as they are kept.
use Rattle.std.specs.Prelude.{ℕ, List, [], ◌∷◌}

-- the names as texts, and as SDF spells them
pub record KeptNames : Type 0 where
  pub texts : List (List ℕ)
  pub spellings : List (List ℕ)

-- the spellings that are kept; where none is, they are the texts
abbrev pub spelled_or : List (List ℕ) → List (List ℕ) → List (List ℕ)
spelled_or texts [] = texts
spelled_or texts (first ∷ others) = first ∷ others
