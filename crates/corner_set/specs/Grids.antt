-- What a grid is.
use Rattle.std.specs.Prelude.{ℕ, List}

pub record GridOf (T : Type 0) : Type 0 where
  -- rows one after another, and in each row the corners by number
  pub values : List T
  -- how many rows fit without taking memory
  pub room : ℕ
