-- A number is a rounding where its rest says so.
use Rattle.std.proofs.Common.{◌≡◌, ℕ, ◌*◌, ◌≤◌, ◌^◌, ℤ, pos, ◌+ℤ◌, ◌-ℤ◌, ◌*ℤ◌, ◌≤ℤ◌, ◌<ℤ◌, unsigned_abs, ap, ◌∙◌, sym, FitsSigned, arith}
use Rattle.std.specs.Int.{w128}
use Rattle.std.proofs.lemmas.Int.{ints}
use Rattle.std.proofs.Math.IntN.{pos-*ℤ-pos}
use Rattle.delay_units.specs.Rounding.{IsRounding}
use Rattle.delay_units.proofs.RoundingLemmas.{rounding_from}

-- twice the rest, and a half of the divisor more
abbrev pub rest_at : ℤ → ℕ → ℕ → ℤ
rest_at n m d = (pos 2 *ℤ (n -ℤ pos m)) +ℤ pos d

pub rest_fits : (n : ℤ) (m : ℕ) → unsigned_abs n ≤ 10 ^ 37 → m ≤ 10 ^ 37 → FitsSigned w128 (n -ℤ pos m)
rest_fits n m small few = omega (arith, ints, small, few)

pub double_fits : (n : ℤ) (m : ℕ) → unsigned_abs n ≤ 10 ^ 37 → m ≤ 10 ^ 37 → FitsSigned w128 (pos 2 *ℤ (n -ℤ pos m))
double_fits n m small few = omega (arith, ints, small, few)

pub all_fits : (n : ℤ) (m d : ℕ) → unsigned_abs n ≤ 10 ^ 37 → m ≤ 10 ^ 37 → d ≤ 10 ^ 27 → FitsSigned w128 (rest_at n m d)
all_fits n m d small few most = omega (arith, ints, small, few, most)

pub twice_fits : (d : ℕ) → d ≤ 10 ^ 27 → FitsSigned w128 (pos 2 *ℤ pos d)
twice_fits d most = omega (arith, ints, most)

pub near_rounding : (n : ℤ) (d v m : ℕ) → m ≡ v * d → pos 0 ≤ℤ rest_at n m d → rest_at n m d <ℤ (pos 2 *ℤ pos d) → IsRounding n (pos d) (pos v)
near_rounding n d v m is low high =
    rounding_from n (pos d) (pos v) (pos m) (ap pos is ∙ sym (pos-*ℤ-pos v d)) (omega (arith, ints, low)) (omega (arith, ints, high))
