-- What an index writes as a number, as far as 64 bits tell it. Indices of different numbers are different.
use Rattle.std.specs.Prelude.{ℕ, ◌+◌, ◌-◌, ◌*◌, ◌%◌, ◌^◌, List, fold}

-- a digit behind those before it
abbrev pub with_digit : ℕ → ℕ → ℕ
with_digit number digit = ((number * 10 % 2 ^ 64 + digit) % 2 ^ 64 + (2 ^ 64 - 48)) % 2 ^ 64

abbrev pub number_of : List ℕ → ℕ
number_of digits = fold with_digit 0 digits
