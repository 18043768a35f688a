-- The multiple of the divisor and the rest fit, for the dividend is small.
use Rattle.std.proofs.Common.{◌-ℤ◌, ◌*ℤ◌, arith, FitsSigned}
use Rattle.std.specs.Int.{w128}
use Rattle.std.proofs.lemmas.Int.{ints, to_z-of_z}
use Rattle.delay_units.proofs.RoundingLemmas.{rest_of, next_below}
use Rattle.delay_units.proofs.rounding.rest_of.Goals as goal

pub overflow_mul-result : goal.overflow_mul-result
overflow_mul-result c =
    let (low, high) = next_below c.args.n c.args.d c.args.whole c.requires.divisor c.requires.whole in
    simp (to_z-of_z, c.ranges.whole, c.ranges.d) (omega (arith, ints, low, high, c.requires.small, c.requires.small_divisor))

pub overflow_sub-result : goal.overflow_sub-result
overflow_sub-result c =
    let (low, high) = next_below c.args.n c.args.d c.args.whole c.requires.divisor c.requires.whole in
    let f : FitsSigned w128 (c.args.whole *ℤ c.args.d) = omega (arith, ints, low, high, c.requires.small, c.requires.small_divisor) in
    simp (to_z-of_z, c.ranges.whole, c.ranges.d, c.ranges.n, f) (omega (arith, ints, low, high, c.requires.small, c.requires.small_divisor))

pub returns : goal.returns
returns c =
    let (low, high) = next_below c.args.n c.args.d c.args.whole c.requires.divisor c.requires.whole in
    let f : FitsSigned w128 (c.args.whole *ℤ c.args.d) = omega (arith, ints, low, high, c.requires.small, c.requires.small_divisor) in
    let g : FitsSigned w128 (c.args.n -ℤ (c.args.whole *ℤ c.args.d)) = omega (arith, ints, low, high, c.requires.small, c.requires.small_divisor) in
    simp (to_z-of_z, c.ranges.whole, c.ranges.d, c.ranges.n, f, g) (rest_of c.args.n c.args.d c.args.whole c.requires.divisor c.requires.whole)
