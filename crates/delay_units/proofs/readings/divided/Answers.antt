use Rattle.std.proofs.Common.{◌≡◌, ◌^◌, pos, unsigned_abs, ap, arith, FitsSigned}
use Rattle.std.proofs.lemmas.Int.{ints, to_z-of_z}
use Rattle.std.specs.Int.{w128, cast_signed}
use Rattle.delay_units.proofs.PowerLemmas.{ten_le, ten_is_positive, power_down, vanishes}
use Rattle.delay_units.proofs.readings.divided.Goals as goal

pub overflow_cast-ten_to : goal.overflow_cast-ten_to
overflow_cast-ten_to c =
    let p = simp (to_z-of_z, c.ranges.power) at c.unsigned_abs-k.ensures.value in
    let l = ten_le c.unsigned_abs-k.result 37 (omega arith) in
    omega (arith, ints, l)

pub half_up-requires-clause-divisor : goal.half_up-requires-clause-divisor
half_up-requires-clause-divisor c =
    let l = ten_le c.unsigned_abs-k.result 37 (omega arith) in
    let g = ten_is_positive c.unsigned_abs-k.result in
    omega (arith, ints, l, g)

pub half_up-requires-clause-small_divisor : goal.half_up-requires-clause-small_divisor
half_up-requires-clause-small_divisor c =
    let l = ten_le c.unsigned_abs-k.result 37 (omega arith) in
    omega (arith, ints, l)

pub returns-then-k-gt37 : goal.returns-then-k-gt37
returns-then-k-gt37 c =
    let p = simp (to_z-of_z, c.ranges.power) at c.unsigned_abs-k.ensures.value in
    power_down c.args.n c.args.power (pos 0) c.requires.negative
    (vanishes c.args.n (unsigned_abs c.args.power) c.requires.small (omega (arith, p)))

pub returns-else-k-gt37 : goal.returns-else-k-gt37
returns-else-k-gt37 c =
    let p = simp (to_z-of_z, c.ranges.power) at c.unsigned_abs-k.ensures.value in
    let l = ten_le c.unsigned_abs-k.result 37 (omega arith) in
    let s : 10 ^ c.unsigned_abs-k.result ≡ 10 ^ unsigned_abs c.args.power = ap (λ x. 10 ^ x) p in
    let e : cast_signed w128 c.ten_to.result ≡ pos (10 ^ unsigned_abs c.args.power) = omega (arith, ints, s, l) in
    let r = rw e at c.half_up.ensures.rounded in
    let q = simp (to_z-of_z, c.ranges.n) at r in
    let f : FitsSigned w128 c.half_up.result = record { sfits = c.half_up.type_inv } in
    simp to_z-of_z (power_down c.args.n c.args.power c.half_up.result c.requires.negative q)
