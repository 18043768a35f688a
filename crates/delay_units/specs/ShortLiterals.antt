-- Short literals: a few digits with at most one point, as most values of a SPEF file (IEEE 1481) are written.
use Rattle.std.specs.Prelude.{◌≡◌, ℕ, ◌+◌, ◌-◌, ◌*◌, ◌^◌, ◌<◌, ◌≤◌, List, ◌++◌, length, fold, Option, Some, None, Bool, true, false}
use Rattle.delay_units.specs.Literal.{AreDigits, fraction_text, fraction_digits, number_of}
use Rattle.delay_units.specs.Parts.{NoDigitFirst, NotFirst, NoMarkFirst}
use Rattle.delay_units.specs.declared.short_literals.Short.{Short}

-- the number that digits write behind those of another
abbrev pub written_behind : ℕ → List ℕ → ℕ
written_behind number digits = fold (λ n c. n * 10 + (c - 48)) number digits

-- the text is digits and the rest, and the number is theirs behind the one of before
pub record TakesDigits (before : ℕ) (text : List ℕ) (number : ℕ) (rest : List ℕ) : Type 0 where
  pub digits : List ℕ
  pub split : text ≡ digits ++ rest
  pub are_digits : AreDigits digits
  pub number_is : number ≡ written_behind before digits
  pub small : number < 10 ^ (18 - length rest)

-- whether digits have a point behind them, and digits behind that, of which there may be none
abbrev pub has_point : Option (List ℕ) → Bool
has_point None = false
has_point (Some _) = true

-- the text has at most 18 digits, which write this number, and so many of them stand behind a point
pub record IsShort (text : List ℕ) (short : Short) : Type 0 where
  pub whole : List ℕ
  pub fraction : Option (List ℕ)
  pub writes : text ≡ whole ++ fraction_text fraction
  pub are_whole : AreDigits whole
  pub are_fraction : AreDigits (fraction_digits fraction)
  pub some_digit : 0 < length (whole ++ fraction_digits fraction)
  pub few_digits : length (whole ++ fraction_digits fraction) ≤ 18
  pub digits : short.digits ≡ number_of (whole ++ fraction_digits fraction)
  pub small : short.digits < 10 ^ 18
  pub pointed : short.pointed ≡ has_point fraction
  pub places : short.places ≡ length (fraction_digits fraction)

-- the text begins with such digits, and this is the rest, which may begin with more of them
pub record HasShortFront (text : List ℕ) (short : Short) (rest : List ℕ) : Type 0 where
  pub front : List ℕ
  pub split : text ≡ front ++ rest
  pub is_short : IsShort front short

-- no literal of digits with a point among them goes on with the text
abbrev pub EndsPlainly : List ℕ → Type 0
EndsPlainly text = NoDigitFirst text × NotFirst 46 text × NoMarkFirst text
