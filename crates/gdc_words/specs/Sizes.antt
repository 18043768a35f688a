-- Values that are the size of a trial.
use Rattle.std.specs.Prelude.{◌≡◌, ℕ, ◌≤◌, List}
use Rattle.delay_units.specs.Literal.{AreDigits, number_of}

-- the largest size
abbrev pub most_size : ℕ
most_size = 600000

-- A value is such a size: decimal digits alone, which read as a number from 1 to the largest one.
pub record IsSize (value : List ℕ) (size : ℕ) : Type 0 where
  pub digits : AreDigits value
  pub reads : size ≡ number_of value
  pub some : 1 ≤ size
  pub within : size ≤ most_size
