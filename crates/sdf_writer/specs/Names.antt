-- The names of rows: they stand in one list, and a row holds the numbers of its own.
use Rattle.std.specs.Prelude.{◌≡◌, ℕ, ◌<◌, List, [], ◌++◌, length, get_or}

-- a name by its number
abbrev pub name_at : List (List ℕ) → ℕ → List ℕ
name_at names number = get_or names number []

-- names were put at the end
pub record ExtendsNames (old new : List (List ℕ)) : Type 0 where
  pub more : List (List ℕ)
  pub is : new ≡ old ++ more

-- the name of that number is this one
pub record KeepsName (names : List (List ℕ)) (name : List ℕ) (number : ℕ) : Type 0 where
  pub below : number < length names
  pub is : name_at names number ≡ name
