-- The decimal texts of times in picoseconds.
use Rattle.std.specs.Prelude.{ℕ, zero, suc, ◌+◌, ◌/◌, ◌%◌, ◌^◌, List, [], ◌∷◌, ◌++◌, ℤ, pos, negsuc, decimal}
use Rattle.delay_units.specs.declared.quantities.Femto.{Femto}
use Rattle.delay_units.specs.declared.quantities.Atto.{Atto}

-- the last k digits of n, zeros in front where n has fewer
abbrev pub last_digits : ℕ → ℕ → List ℕ
last_digits zero n = []
last_digits (suc k) n = last_digits k (n / 10) ++ ((48 + n % 10) ∷ [])

-- n * 10^-k with exactly k decimals
abbrev pub fixed_text : ℕ → ℕ → List ℕ
fixed_text k n = decimal (n / 10 ^ k) ++ (46 ∷ last_digits k n)

-- the same of a signed number, with `-` before a negative one
abbrev pub signed_fixed_text : ℕ → ℤ → List ℕ
signed_fixed_text k (pos n) = fixed_text k n
signed_fixed_text k (negsuc n) = 45 ∷ fixed_text k (suc n)

-- a time in picoseconds: to the femtosecond, and to the attosecond
abbrev pub femto_text : Femto → List ℕ
femto_text value = signed_fixed_text 3 value.0

abbrev pub atto_text : Atto → List ℕ
atto_text value = signed_fixed_text 6 value.0
