-- The sign of a rounded reading is that of the number.
use Rattle.std.proofs.Common.{ℕ, zero, suc, ◌*◌, ◌^◌, ◌≤◌, ℤ, pos, negsuc, ◌+ℤ◌, ◌*ℤ◌, ◌≤ℤ◌, ◌<ℤ◌, arith}
use Rattle.std.proofs.lemmas.Int.{ints}
use lib.IntN.{pos-*ℤ-pos, negsuc-*ℤ-pos}
use Rattle.delay_units.specs.Rounding.{IsRounding}
use Rattle.delay_units.specs.Reading.{IsRoundedPower, IsReading}
use Rattle.delay_units.specs.declared.numbers.Decimal.{Decimal}
use Rattle.delay_units.specs.declared.numbers.Unit.{Unit}
use Rattle.delay_units.proofs.PowerLemmas.{ten_is_positive}
use Rattle.delay_units.proofs.RoundingLemmas.{rounding_low, rounding_high}

negative_product : (z : ℤ) (t : ℕ) → z <ℤ pos 0 → 1 ≤ t → (z *ℤ pos t) <ℤ pos 0
negative_product (pos a) t h k = absurd (omega (arith, ints, h))
negative_product (negsuc a) t h k =
    let p = negsuc-*ℤ-pos a t in
    let g : t ≤ suc a * t = grind arith in
    omega (arith, ints, p, g, k)

natural_product : (z : ℤ) (t : ℕ) → pos 0 ≤ℤ z → pos 0 ≤ℤ (z *ℤ pos t)
natural_product (pos a) t h =
    let p = pos-*ℤ-pos a t in
    omega (arith, ints, p)
natural_product (negsuc a) t h = absurd (omega (arith, ints, h))

-- a number below 0 rounds to no more than 0, any other to no less
rounds_low : (n : ℤ) (d : ℕ) (v : ℤ) → 1 ≤ d → n <ℤ pos 0 → IsRounding n (pos d) v → v ≤ℤ pos 0
rounds_low n d (negsuc k) h low r = omega (arith, ints)
rounds_low n d (pos zero) h low r = omega (arith, ints)
rounds_low n d (pos (suc k)) h low r =
    let p = pos-*ℤ-pos (suc k) d in
    let g : d ≤ suc k * d = grind arith in
    absurd (omega (arith, ints, p, g, h, low, rounding_low n (pos d) (pos (suc k)) r))

rounds_high : (n : ℤ) (d : ℕ) (v : ℤ) → 1 ≤ d → pos 0 ≤ℤ n → IsRounding n (pos d) v → pos 0 ≤ℤ v
rounds_high n d (pos k) h high r = omega (arith, ints)
rounds_high n d (negsuc k) h high r =
    let p = negsuc-*ℤ-pos k d in
    let g : d ≤ suc k * d = grind arith in
    absurd (omega (arith, ints, p, g, h, high, rounding_high n (pos d) (negsuc k) r))

power_low : (n power v : ℤ) → n <ℤ pos 0 → IsRoundedPower n power v → v ≤ℤ pos 0
power_low n (pos k) v low r = rounds_low (n *ℤ pos (10 ^ k)) 1 v (omega arith) (negative_product n (10 ^ k) low (ten_is_positive k)) r
power_low n (negsuc k) v low r = rounds_low n (10 ^ suc k) v (ten_is_positive (suc k)) low r

power_high : (n power v : ℤ) → pos 0 ≤ℤ n → IsRoundedPower n power v → pos 0 ≤ℤ v
power_high n (pos k) v high r = rounds_high (n *ℤ pos (10 ^ k)) 1 v (omega arith) (natural_product n (10 ^ k) high) r
power_high n (negsuc k) v high r = rounds_high n (10 ^ suc k) v (ten_is_positive (suc k)) high r

pub reads_low : (number : Decimal) (unit : Unit) (v : ℤ) → number.digits <ℤ pos 0 → IsReading number unit v → v ≤ℤ pos 0
reads_low number unit v low r =
    power_low (number.digits *ℤ pos unit.mantissa) (number.exponent +ℤ unit.exponent) v (negative_product number.digits unit.mantissa low unit.positive) r

pub reads_high : (number : Decimal) (unit : Unit) (v : ℤ) → pos 0 ≤ℤ number.digits → IsReading number unit v → pos 0 ≤ℤ v
reads_high number unit v high r =
    power_high (number.digits *ℤ pos unit.mantissa) (number.exponent +ℤ unit.exponent) v (natural_product number.digits unit.mantissa high) r
