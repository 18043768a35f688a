use Rattle.std.proofs.Common.{pos, ◌-◌, ◌<◌, ◌≤◌, length, arith, ⊎_elim, subst, get_or}
use Rattle.std.proofs.lemmas.Int.{ints}
use Rattle.std.proofs.lemmas.Option.{slice_get-get_or, slice_get_within}
use Rattle.std.proofs.Math.Nat.{eq-or-lt_of_le}
use Rattle.nldm_lookup.specs.Axes.{FallsAt}
use Rattle.nldm_lookup.proofs.Gaps.{no_fall}
use Rattle.nldm_lookup.proofs.axis.first_fall.Goals as goal

pub loop-place-preserved : goal.loop-place-preserved
loop-place-preserved c = λ earlier less fall.
    let points = c.args.points.now in
    let place = c.loop-place.place in
    let some : 1 ≤ place = omega (arith, c.loop-place.auto.place) in
    let within : place < length points = c.loop-place-test.true in
    ⊎_elim
    (λ same. no_fall points place (place - 1) (get_or points (place - 1) (pos 0)) (get_or points place (pos 0)) (omega (arith, some))
    (slice_get-get_or points (place - 1) (pos 0) (omega (arith, within))) (slice_get-get_or points place (pos 0) within) (omega (arith, ints, c.if-points-place.false))
    (subst (λ at. FallsAt points at) same fall))
    (λ before. c.loop-place.invariant earlier before fall)
    (eq-or-lt_of_le (omega (arith, less)))

pub returns-clause-none : goal.returns-clause-none
returns-clause-none c = λ place fall.
    let last : length c.args.points.now ≤ c.loop-place.place = c.loop-place-test.false in
    c.loop-place.invariant place (omega (arith, last, slice_get_within c.args.points.now place fall.other fall.here)) fall
