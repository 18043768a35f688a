-- The decimal literal: an optional sign, digits with at most one point and at least one digit, and optionally
-- `e` or `E` with an optional sign and at least one digit.
use Rattle.std.specs.Prelude.{◌≡◌, ◌≢◌, ℕ, ◌+◌, ◌-◌, ◌*◌, ◌%◌, ◌^◌, ◌<◌, ◌≤◌, ◌⊎◌, List, [], ◌∷◌, ◌++◌, length, take, reverse, fold, ℤ, pos, ◌-ℤ◌, ◌*ℤ◌, neg_ℤ, unsigned_abs, Option, Some, None, Result, Ok, Err, if◌then◌else◌, ◌==◌, ⊤}
use Rattle.delay_units.specs.declared.numbers.Decimal.{Decimal}
use Rattle.delay_units.specs.declared.numbers.NumberFault.{NumberFault}
use Rattle.delay_units.specs.declared.numbers.NumberFault.TheVariants.{NotANumber, TooManyDigits, ExponentTooLarge}

-- each byte is one of '0' to '9'
abbrev pub AreDigits : List ℕ → Type 0
AreDigits [] = ⊤
AreDigits (c ∷ cs) = (48 ≤ c) × (c ≤ 57) × AreDigits cs

-- a sign that may be left out
pub data Sign : Type 0 where
  unsigned : Sign
  plus : Sign
  minus : Sign

abbrev pub sign_text : Sign → List ℕ
sign_text unsigned = []
sign_text plus = 43 ∷ []
sign_text minus = 45 ∷ []

-- the exponent of a literal: the byte `e` or `E`, a sign and digits
pub record Exponent : Type 0 where
  pub mark : ℕ
  pub sign : Sign
  pub digits : List ℕ

-- the parts of a literal: of `-12.50e+3` the sign, the digits `12`, those behind the point, and the exponent
pub record Literal : Type 0 where
  pub sign : Sign
  pub whole : List ℕ
  pub fraction : Option (List ℕ)
  pub exponent : Option Exponent

abbrev pub fraction_text : Option (List ℕ) → List ℕ
fraction_text None = []
fraction_text (Some ds) = 46 ∷ ds

abbrev pub exponent_text : Option Exponent → List ℕ
exponent_text None = []
exponent_text (Some e) = e.mark ∷ (sign_text e.sign ++ e.digits)

abbrev pub literal_text : Literal → List ℕ
literal_text l = sign_text l.sign ++ (l.whole ++ (fraction_text l.fraction ++ exponent_text l.exponent))

-- the digits behind the point
abbrev pub fraction_digits : Option (List ℕ) → List ℕ
fraction_digits None = []
fraction_digits (Some ds) = ds

-- the digits before and behind the point
abbrev pub mantissa_digits : Literal → List ℕ
mantissa_digits l = l.whole ++ fraction_digits l.fraction

-- an exponent has the mark `e` or `E`, and a digit or more
abbrev pub IsExponent : Option Exponent → Type 0
IsExponent None = ⊤
IsExponent (Some e) = ((e.mark ≡ 101) ⊎ (e.mark ≡ 69)) × AreDigits e.digits × (0 < length e.digits)

-- l has the form of a literal, and the text writes it
pub record Spells (text : List ℕ) (l : Literal) : Type 0 where
  pub writes : text ≡ literal_text l
  pub whole : AreDigits l.whole
  pub fraction : AreDigits (fraction_digits l.fraction)
  pub some_digit : 0 < length (mantissa_digits l)
  pub exponent : IsExponent l.exponent

abbrev pub IsLiteral : List ℕ → Type 0
IsLiteral text = (l : Literal) × Spells text l

-- some bytes appended to the front make it a literal
abbrev pub BeginsLiteral : List ℕ → Type 0
BeginsLiteral front = (rest : List ℕ) × IsLiteral (front ++ rest)

-- p is the length of the longest front of the text that begins a literal
pub record IsLongestFront (text : List ℕ) (p : ℕ) : Type 0 where
  pub within : p ≤ length text
  pub begins : BeginsLiteral (take p text)
  pub longest : (k : ℕ) → k ≤ length text → BeginsLiteral (take k text) → k ≤ p

-- the number that decimal digits write
abbrev pub number_of : List ℕ → ℕ
number_of ds = fold (λ n c. n * 10 + (c - 48)) 0 ds

abbrev pub signed : Sign → ℕ → ℤ
signed unsigned n = pos n
signed plus n = pos n
signed minus n = neg_ℤ (pos n)

-- the exponent as it is written, without its sign, and with it; 0 where there is none
abbrev pub exponent_size : Option Exponent → ℕ
exponent_size None = 0
exponent_size (Some e) = number_of e.digits

abbrev pub exponent_of : Option Exponent → ℤ
exponent_of None = pos 0
exponent_of (Some e) = signed e.sign (number_of e.digits)

-- the digits without the zeros in front
abbrev pub without_leading_zeros : List ℕ → List ℕ
without_leading_zeros [] = []
without_leading_zeros (c ∷ cs) = if c == 48 then without_leading_zeros cs else c ∷ cs

-- the significant digits: those without leading and trailing zeros
abbrev pub significant : List ℕ → List ℕ
significant ds = reverse (without_leading_zeros (reverse (without_leading_zeros ds)))

-- m * 10^e and n * 10^f are one number: over a common power of ten they have the same digits
abbrev pub SameNumber : (m e n f : ℤ) → Type 0
SameNumber m e n f =
    (a b : ℕ) × ((e -ℤ pos a) ≡ (f -ℤ pos b)) × ((m *ℤ pos (10 ^ a)) ≡ (n *ℤ pos (10 ^ b)))

-- d is the value of the literal, with no trailing zero among its digits, and 0 with the exponent 0 for zero
pub record IsDecimalOf (l : Literal) (d : Decimal) : Type 0 where
  pub value : SameNumber d.digits d.exponent
      (signed l.sign (number_of (mantissa_digits l)))
      (exponent_of l.exponent -ℤ pos (length (fraction_digits l.fraction)))
  pub no_trailing_zero : d.digits ≢ pos 0 → unsigned_abs d.digits % 10 ≢ 0
  pub zero : d.digits ≡ pos 0 → d.exponent ≡ pos 0

-- at most 30 significant digits are read, and an exponent of at most 99 in size
abbrev pub HasFewDigits : Literal → Type 0
HasFewDigits l = length (significant (mantissa_digits l)) ≤ 30

abbrev pub HasSmallExponent : Literal → Type 0
HasSmallExponent l = exponent_size l.exponent ≤ 99

-- the text is a literal that fits, and d its value
pub record IsNumber (text : List ℕ) (d : Decimal) : Type 0 where
  pub literal : Literal
  pub spells : Spells text literal
  pub few_digits : HasFewDigits literal
  pub small_exponent : HasSmallExponent literal
  pub value : IsDecimalOf literal d

-- why the text is not read: it is no literal, or has too many digits, or too large an exponent, in this order
abbrev pub IsFaultOf : List ℕ → NumberFault → Type 0
IsFaultOf text (NotANumber p) = (IsLiteral text → ⊥) × IsLongestFront text p
IsFaultOf text TooManyDigits = (l : Literal) × Spells text l × (30 < length (significant (mantissa_digits l)))
IsFaultOf text ExponentTooLarge = (l : Literal) × Spells text l × HasFewDigits l × (99 < exponent_size l.exponent)

-- what is read from a text that is this literal
abbrev pub IsAnswerTo : Literal → Result Decimal NumberFault → Type 0
IsAnswerTo l (Ok d) = HasFewDigits l × HasSmallExponent l × IsDecimalOf l d
IsAnswerTo l (Err (NotANumber p)) = ⊥
IsAnswerTo l (Err TooManyDigits) = 30 < length (significant (mantissa_digits l))
IsAnswerTo l (Err ExponentTooLarge) = HasFewDigits l × (99 < exponent_size l.exponent)
