-- That a decimal has one reading in a unit, and so has a text.
use Rattle.std.proofs.Common.{◌<ℤ◌, unsigned_abs, ◌≡◌, ℕ, suc, ◌^◌, List, ℤ, pos, negsuc, ◌+ℤ◌, ◌*ℤ◌, sym, arith, subst}
use Rattle.std.proofs.lemmas.Int.{ints}
use Rattle.delay_units.specs.Literal.{IsNumber}
use Rattle.delay_units.specs.Reading.{IsRoundedPower, IsReading, ReadsAs}
use Rattle.delay_units.specs.declared.numbers.Decimal.{Decimal}
use Rattle.delay_units.specs.declared.numbers.Unit.{Unit}
use Rattle.delay_units.proofs.OneDecimal.{one_decimal}
use Rattle.delay_units.proofs.PowerLemmas.{ten_is_positive}
use Rattle.delay_units.proofs.RoundingLemmas.{one_value}

pub one_power : (n power v w : ℤ) → IsRoundedPower n power v → IsRoundedPower n power w → v ≡ w
one_power n (pos k) v w r s = one_value (n *ℤ pos (10 ^ k)) (pos 1) v w (omega (arith, ints)) r s
one_power n (negsuc k) v w r s =
    let g = ten_is_positive (suc k) in
    one_value n (pos (10 ^ suc k)) v w (omega (arith, ints, g)) r s

pub one_reading : (number : Decimal) (unit : Unit) (v w : ℤ) → IsReading number unit v → IsReading number unit w → v ≡ w
one_reading number unit v w r s = one_power (number.digits *ℤ pos unit.mantissa) (number.exponent +ℤ unit.exponent) v w r s

pub reading_from : (number : Decimal) (unit : Unit) (a b v : ℤ) → a ≡ number.digits *ℤ pos unit.mantissa → b ≡ number.exponent +ℤ unit.exponent → IsRoundedPower a b v → IsReading number unit v
reading_from number unit a b v ea eb r =
    let P : ℤ → Type 0 = λ x. IsRoundedPower x (number.exponent +ℤ unit.exponent) v in
    let Q : ℤ → Type 0 = λ x. IsRoundedPower a x v in
    subst P ea (subst Q eb r)

-- where one reading is past the limit, each is
pub all_past : (number : Decimal) (unit : Unit) (limit v : ℤ) → (x : ℤ) × IsReading number unit x × (limit <ℤ pos (unsigned_abs x)) → IsReading number unit v → limit <ℤ pos (unsigned_abs v)
all_past number unit limit v p r = let P : ℤ → Type 0 = λ x. limit <ℤ pos (unsigned_abs x) in subst P (one_reading number unit p.0 v p.1 r) p.2

-- ---- the reading of a text

pub reads_as : (unit : Unit) (text : List ℕ) (number : Decimal) (v : ℤ) → IsNumber text number → IsReading number unit v → ReadsAs unit text v
reads_as unit text number v reads rounded = record { number = number; reads = reads; rounded = rounded }

same_rounded : (number other : Decimal) (unit : Unit) (v : ℤ) → number.digits ≡ other.digits → number.exponent ≡ other.exponent
    → IsReading other unit v → IsReading number unit v
same_rounded number other unit v e f r =
    let P : ℤ → ℤ → Type 0 = λ digits exponent. IsRoundedPower (digits *ℤ pos unit.mantissa) (exponent +ℤ unit.exponent) v in
    subst (λ x. P x number.exponent) (sym e) (subst (λ x. P other.digits x) (sym f) r)

-- a text has one reading in a unit
pub one_text_reading : (unit : Unit) (text : List ℕ) (v w : ℤ) → ReadsAs unit text v → ReadsAs unit text w → v ≡ w
one_text_reading unit text v w one other =
    let same = one_decimal text one.number other.number one.reads other.reads in
    one_reading one.number unit v w one.rounded (same_rounded one.number other.number unit w same.0 same.1 other.rounded)
