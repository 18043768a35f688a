-- Tokens with their numbers. A grammar is a relation between a list of them and what the list says, so that it names no place.
use Rattle.std.specs.Prelude.{ℕ, ◌+◌, List, [], ◌∷◌}

-- a token: its number in the file, from 1, and its text
pub record Token (T : Type 0) : Type 0 where
  pub number : ℕ
  pub text : T

-- the texts as tokens, numbered from `number` on
abbrev pub numbered : {T : Type 0} → ℕ → List T → List (Token T)
numbered number [] = []
numbered number (text ∷ texts) = record { number = number; text = text } ∷ numbered (number + 1) texts
