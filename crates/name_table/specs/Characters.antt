-- The characters of a name as it is written: a backslash makes the next byte literal.
use Rattle.std.specs.Prelude.{ℕ, Bool, true, false, not, ◌==◌, List, [], ◌∷◌}
use Rattle.std.specs.List.{flat_map}
use Rattle.edge_io.specs.Bytes.{backslash}

-- a byte that stands as it is, and one that a backslash takes with it
pub data Character : Type 0 where
  bare : ℕ → Character
  escaped : ℕ → Character

abbrev mutual
  -- the characters of a word
  pub characters : List ℕ → List Character
  characters [] = []
  characters (byte ∷ rest) = elim (byte == backslash) [ true ↦ after_backslash rest | false ↦ bare byte ∷ characters rest ]

  -- those of what follows a backslash
  pub after_backslash : List ℕ → List Character
  after_backslash [] = []
  after_backslash (byte ∷ rest) = escaped byte ∷ characters rest

-- a character as it is written
abbrev pub written : Character → List ℕ
written (bare byte) = byte ∷ []
written (escaped byte) = backslash ∷ byte ∷ []

-- a backslash is no bare character
abbrev pub may_stand : Character → Bool
may_stand (bare byte) = not (byte == backslash)
may_stand (escaped byte) = true

-- a name as it is written
abbrev pub word_of : List Character → List ℕ
word_of name = flat_map written name
