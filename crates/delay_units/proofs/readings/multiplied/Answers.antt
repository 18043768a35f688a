use Rattle.std.proofs.Common.{◌≡◌, ◌^◌, pos, unsigned_abs, arith}
use Rattle.std.proofs.lemmas.Int.{ints, to_z-of_z}
use Rattle.std.specs.Int.{w128, cast_signed}
use Rattle.delay_units.proofs.PowerLemmas.{ten_le, product_is_read, product_is_past, large_is_past}
use Rattle.delay_units.proofs.readings.multiplied.Goals as goal

pub overflow_cast-ten_to : goal.overflow_cast-ten_to
overflow_cast-ten_to c =
    let p = simp (to_z-of_z, c.ranges.k) at c.ten_to.ensures in
    let l = ten_le (unsigned_abs c.args.k) 36 (omega (arith, ints)) in
    omega (arith, ints, p, l)

pub returns-clause-value : goal.returns-clause-value
returns-clause-value c =
    let p = simp (to_z-of_z, c.ranges.k) at c.ten_to.ensures in
    let l = ten_le (unsigned_abs c.args.k) 36 (omega (arith, ints)) in
    let e : cast_signed w128 c.ten_to.result ≡ pos (10 ^ unsigned_abs c.args.k) = omega (arith, ints, p, l) in
    product_is_read _ c.args.n c.args.k _ _ (to_z-of_z w128 c.args.n c.ranges.n) e c.requires.positive c.checked_mul.ensures

pub returns-clause-past : goal.returns-clause-past
returns-clause-past c =
    let p = simp (to_z-of_z, c.ranges.k) at c.ten_to.ensures in
    let l = ten_le (unsigned_abs c.args.k) 36 (omega (arith, ints)) in
    let e : cast_signed w128 c.ten_to.result ≡ pos (10 ^ unsigned_abs c.args.k) = omega (arith, ints, p, l) in
    product_is_past _ c.args.n c.args.k _ _ (to_z-of_z w128 c.args.n c.ranges.n) e c.requires.positive c.checked_mul.ensures

pub returns-then-k-gt36-clause-past : goal.returns-then-k-gt36-clause-past
returns-then-k-gt36-clause-past c =
    large_is_past c.args.n c.args.k (omega (arith, ints)) (omega (arith, ints))
