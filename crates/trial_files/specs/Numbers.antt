-- Numbers in texts.
use Rattle.std.specs.Prelude.{ℕ, List, ◌++◌, decimal}

-- a number in decimal digits, with a text before it and one behind it
abbrev pub numbered : List ℕ → ℕ → List ℕ → List ℕ
numbered front number back = front ++ (decimal number ++ back)
