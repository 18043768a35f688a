-- The parts of a text that may be a literal: what the steps of reading say.
use Rattle.std.specs.Prelude.{◌≡◌, ℕ, ◌<◌, ◌≤◌, ◌⊎◌, Bool, true, false, ℤ, pos, ◌+ℤ◌, ◌-ℤ◌, neg_ℤ, Result, Ok, Err, List, [], ◌∷◌, ◌++◌, length, Option, Some, None, ◌==◌, ⊤}
use Rattle.std.specs.Char.{is_ascii_digit}
use Rattle.delay_units.specs.Literal.{AreDigits, Sign, unsigned, plus, minus, sign_text, Exponent, fraction_text, fraction_digits, exponent_text, IsExponent, exponent_size, number_of, IsNumber, IsFaultOf}
use Rattle.delay_units.specs.Places.{Place, is_mark, place_after, may_end}
use Rattle.delay_units.specs.Tallies.{IsTallyOf}
use Rattle.delay_units.specs.declared.literal.Power.{Power}
use Rattle.delay_units.specs.declared.numbers.Decimal.{Decimal}
use Rattle.delay_units.specs.declared.numbers.NumberFault.{NumberFault}
use Rattle.delay_units.specs.declared.numbers.NumberFault.TheVariants.{NotANumber, TooManyDigits, ExponentTooLarge}
use Rattle.delay_units.specs.declared.tally.Tally.{Tally}

-- the rest of a text does not begin with a digit
abbrev pub NoDigitFirst : List ℕ → Type 0
NoDigitFirst [] = ⊤
NoDigitFirst (c ∷ cs) = is_ascii_digit c ≡ false

-- it does not begin with the byte b
abbrev pub NotFirst : ℕ → List ℕ → Type 0
NotFirst b [] = ⊤
NotFirst b (c ∷ cs) = (c == b) ≡ false

-- it does not begin with the mark of an exponent
abbrev pub NoMarkFirst : List ℕ → Type 0
NoMarkFirst [] = ⊤
NoMarkFirst (c ∷ cs) = is_mark c ≡ false

-- it does, and this is the rest
pub record BeginsWithMark (text rest : List ℕ) : Type 0 where
  pub mark : ℕ
  pub split : text ≡ mark ∷ rest
  pub is_e : (mark ≡ 101) ⊎ (mark ≡ 69)

-- neither the end nor the first byte of the rest can follow there
abbrev pub IsStuck : Place → List ℕ → Type 0
IsStuck p [] = may_end p ≡ false
IsStuck p (c ∷ cs) = place_after p c ≡ None

abbrev pub is_minus : Sign → Bool
is_minus unsigned = false
is_minus plus = false
is_minus minus = true

abbrev pub has_minus : Option Exponent → Bool
has_minus None = false
has_minus (Some e) = is_minus e.sign

-- the text is a sign that may be left out and the rest, which begins with none where the text does not
pub record SplitsSign (text : List ℕ) (negative : Bool) (rest : List ℕ) : Type 0 where
  pub sign : Sign
  pub split : text ≡ sign_text sign ++ rest
  pub sign_is : negative ≡ is_minus sign
  pub no_plus : sign ≡ unsigned → NotFirst 43 rest
  pub no_minus : sign ≡ unsigned → NotFirst 45 rest

-- the text is digits and the rest, which begins with none; `before` and the digits have this tally
pub record SplitsDigits (before text : List ℕ) (t : Tally) (rest : List ℕ) : Type 0 where
  pub digits : List ℕ
  pub split : text ≡ digits ++ rest
  pub are_digits : AreDigits digits
  pub stops : NoDigitFirst rest
  pub tally : IsTallyOf (before ++ digits) t

-- the text is digits and the rest, which begins with none
pub record DropsDigits (text rest : List ℕ) : Type 0 where
  pub digits : List ℕ
  pub split : text ≡ digits ++ rest
  pub are_digits : AreDigits digits
  pub stops : NoDigitFirst rest

-- the text is digits with at most one point, as many as there are, and the rest
pub record DropsMantissa (text rest : List ℕ) : Type 0 where
  pub whole : List ℕ
  pub fraction : Option (List ℕ)
  pub split : text ≡ whole ++ (fraction_text fraction ++ rest)
  pub whole_are_digits : AreDigits whole
  pub fraction_are_digits : AreDigits (fraction_digits fraction)
  pub stops : NoDigitFirst rest
  pub no_point : fraction ≡ None → NotFirst 46 rest

-- there is a digit among them
pub record HasMantissa (text rest : List ℕ) : Type 0 where
  pub parts : DropsMantissa text rest
  pub some_digit : 0 < length (parts.whole ++ fraction_digits parts.fraction)

-- there is none, so that no mantissa is in front of the text
pub record HasNoMantissa (text : List ℕ) : Type 0 where
  pub rest : List ℕ
  pub parts : DropsMantissa text rest
  pub no_digit : length (parts.whole ++ fraction_digits parts.fraction) ≡ 0

-- the same, with the tally of the digits and how many of them stand behind the point
pub record SplitsMantissa (text : List ℕ) (t : Tally) (places : ℕ) (rest : List ℕ) : Type 0 where
  pub parts : DropsMantissa text rest
  pub tally : IsTallyOf (parts.whole ++ fraction_digits parts.fraction) t
  pub counted : places ≡ length (fraction_digits parts.fraction)

-- size is n, or both are past 99
pub record IsCapped (n size : ℕ) : Type 0 where
  pub small : n ≤ 99 → size ≡ n
  pub large : 99 < n → 99 < size

-- the text is digits and the rest, which begins with none; size is their number, or both are past 99
pub record SplitsSize (text : List ℕ) (size : ℕ) (rest : List ℕ) : Type 0 where
  pub digits : List ℕ
  pub split : text ≡ digits ++ rest
  pub are_digits : AreDigits digits
  pub stops : NoDigitFirst rest
  pub capped : IsCapped (number_of digits) size

-- the text is an exponent or empty, and the power has its sign and its size, or both sizes are past 99
pub record IsPowerOf (text : List ℕ) (power : Power) : Type 0 where
  pub exponent : Option Exponent
  pub split : text ≡ exponent_text exponent
  pub formed : IsExponent exponent
  pub negative : power.negative ≡ has_minus exponent
  pub size : IsCapped (exponent_size exponent) power.size

-- an exponent that is there stops before the rest, and one that is not there is none in front of the rest: no mark is there, or no
-- digit behind the mark and its sign
pub data StopsExponent : Option Exponent → List ℕ → Type 0 where
  no_more : (e : Exponent) {rest : List ℕ} → NoDigitFirst rest → StopsExponent (Some e) rest
  unmarked : {rest : List ℕ} → NoMarkFirst rest → StopsExponent None rest
  no_digit : {rest : List ℕ} (mark : ℕ) (sign : Sign) (left : List ℕ) → rest ≡ mark ∷ (sign_text sign ++ left)
      → ((mark ≡ 101) ⊎ (mark ≡ 69)) → NoDigitFirst left
      → (sign ≡ unsigned → NotFirst 43 left × NotFirst 45 left) → StopsExponent None rest

-- the text is the exponent in front of it, or none, and the rest; the power has its sign and its size, or both sizes are past 99
pub record SplitsExponent (text : List ℕ) (power : Power) (rest : List ℕ) : Type 0 where
  pub exponent : Option Exponent
  pub split : text ≡ exponent_text exponent ++ rest
  pub formed : IsExponent exponent
  pub negative : power.negative ≡ has_minus exponent
  pub size : IsCapped (exponent_size exponent) power.size
  pub stops : StopsExponent exponent rest

-- no exponent and no more than an exponent is the text, and no exponent goes on with the last `left` bytes of it
pub data StopsIn (text : List ℕ) (left : ℕ) : Type 0 where
  no_mark : (c : ℕ) (cs : List ℕ) → text ≡ c ∷ cs → is_mark c ≡ false → left ≡ length text → StopsIn text left
  no_end : (e : Exponent) (rest : List ℕ) → text ≡ e.mark ∷ (sign_text e.sign ++ (e.digits ++ rest))
      → ((e.mark ≡ 101) ⊎ (e.mark ≡ 69)) → AreDigits e.digits → NoDigitFirst rest
      → (e.sign ≡ unsigned → NotFirst 43 (e.digits ++ rest) × NotFirst 45 (e.digits ++ rest))
      → (0 < length e.digits → 0 < length rest) → left ≡ length rest → StopsIn text left

-- minus n, or n
abbrev pub signed_by : Bool → ℕ → ℤ
signed_by true n = neg_ℤ (pos n)
signed_by false n = pos n

-- the decimal of digits with this tally, as many of them behind the point as `places`, and with this exponent
pub record IsValueOf (negative : Bool) (t : Tally) (places : ℕ) (power : Power) (d : Decimal) : Type 0 where
  pub few : t.significant ≤ 30
  pub small : power.size ≤ 99
  pub no_digits : t.significant ≡ 0 → d.digits ≡ pos 0
  pub no_exponent : t.significant ≡ 0 → d.exponent ≡ pos 0
  pub digits : 0 < t.significant → d.digits ≡ signed_by negative t.number
  pub exponent : 0 < t.significant
      → d.exponent ≡ ((signed_by power.negative power.size -ℤ pos places) +ℤ pos t.zeros)

-- that decimal, or why there is none
abbrev pub DecidesDecimal : Bool → Tally → ℕ → Power → Result Decimal NumberFault → Type 0
DecidesDecimal negative t places power (Ok d) = IsValueOf negative t places power d
DecidesDecimal negative t places power (Err (NotANumber p)) = ⊥
DecidesDecimal negative t places power (Err TooManyDigits) = 30 < t.significant
DecidesDecimal negative t places power (Err ExponentTooLarge) = (t.significant ≤ 30) × (99 < power.size)

-- the number that the text is read as, or why it is not read
abbrev pub DecidesNumber : List ℕ → Result Decimal NumberFault → Type 0
DecidesNumber text (Ok d) = IsNumber text d
DecidesNumber text (Err fault) = IsFaultOf text fault
