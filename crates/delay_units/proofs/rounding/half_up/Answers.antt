use Rattle.std.proofs.Common.{pos, ◌+ℤ◌, unsigned_abs, ap, arith, FitsSigned}
use Rattle.std.specs.Int.{w128}
use Rattle.std.proofs.lemmas.Int.{ints, to_z-of_z}
use Rattle.delay_units.proofs.RoundingLemmas.{one_value, rounds_down, rounds_up, quotient_is_small, rest_in_range}
use Rattle.delay_units.proofs.rounding.half_up.Goals as goal

pub returns-then-rest-d-clause-rounded : goal.returns-then-rest-d-clause-rounded
returns-then-rest-d-clause-rounded c =
    let eq = simp (to_z-of_z, c.ranges.n, c.ranges.d) at c.div_euclid-whole.ensures in
    let er = simp (to_z-of_z, c.ranges.n, c.ranges.d) at c.rest_of-rest.ensures in
    let f : FitsSigned w128 c.div_euclid-whole.result = record { sfits = c.div_euclid-whole.type_inv } in
    simp to_z-of_z (rounds_down c.args.n c.args.d c.div_euclid-whole.result c.rest_of-rest.result c.requires.divisor eq er (omega (arith, ints, er, rest_in_range c.args.n c.args.d c.requires.divisor)))

pub returns-then-rest-d-clause-only : goal.returns-then-rest-d-clause-only
returns-then-rest-d-clause-only c = λ v r.
    one_value _ _ _ _ (omega (arith, ints)) r (returns-then-rest-d-clause-rounded c)

pub returns-else-rest-d-clause-rounded : goal.returns-else-rest-d-clause-rounded
returns-else-rest-d-clause-rounded c =
    let eq = simp (to_z-of_z, c.ranges.n, c.ranges.d) at c.div_euclid-whole.ensures in
    let er = simp (to_z-of_z, c.ranges.n, c.ranges.d) at c.rest_of-rest.ensures in
    let f : FitsSigned w128 c.div_euclid-whole.result = record { sfits = c.div_euclid-whole.type_inv } in
    let g : FitsSigned w128 (c.div_euclid-whole.result +ℤ pos 1) =
    omega (arith, ints, eq, quotient_is_small c.args.n c.args.d c.requires.divisor, ap unsigned_abs eq) in
    simp to_z-of_z (rounds_up c.args.n c.args.d c.div_euclid-whole.result c.rest_of-rest.result c.requires.divisor eq er (omega (arith, ints, er, rest_in_range c.args.n c.args.d c.requires.divisor)))

pub returns-else-rest-d-clause-only : goal.returns-else-rest-d-clause-only
returns-else-rest-d-clause-only c = λ v r.
    one_value _ _ _ _ (omega (arith, ints)) r (returns-else-rest-d-clause-rounded c)
