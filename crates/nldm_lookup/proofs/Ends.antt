-- The ends of an axis: which of them is passed, and which points are around it.
use Rattle.std.proofs.Common.{◌≡◌, ℕ, zero, suc, ◌+◌, ◌-◌, ◌<◌, ◌≤◌, sym, refl, subst, List, length, slice_get, get_or, Some, pos, ◌-ℤ◌, ◌≤ℤ◌, arith}
use Rattle.std.proofs.lemmas.Int.{ints}
use Rattle.std.proofs.lemmas.Option.{slice_get_within, slice_get-get_or, get_or_from_slice_get}
use Rattle.nldm_lookup.specs.Axes.{IsAxis, most}
use Rattle.nldm_lookup.specs.Betweens.{Between, AreNeighbours, neighbours, IsPast, below, above, IsPassed, IsBetween, sole, inside, edge, extend, width}
use Rattle.nldm_lookup.specs.Rows.{IsOn}
use Rattle.corner_set.specs.declared.choices.Beyond.{Beyond}
use Rattle.corner_set.specs.declared.choices.Beyond.TheVariants.{Refuse, Extend}
use Rattle.nldm_lookup.proofs.Gaps.{rises, point_small, same_point}

-- a later point is above
climbs : (points : List ℕ) → IsAxis points → (place more : ℕ) (lower upper : ℕ) → slice_get points place ≡ Some lower → slice_get points (place + suc more) ≡ Some upper → lower < upper
climbs points axis place zero lower upper one other =
    rises points place lower upper axis one (subst (λ at. slice_get points at ≡ Some upper) (omega arith) other)
climbs points axis place (suc more) lower upper one other =
    let within = slice_get_within points (place + suc (suc more)) upper other in
    let middle = get_or points (place + suc more) 0 in
    let here : slice_get points (place + suc more) ≡ Some middle = slice_get-get_or points (place + suc more) 0 (omega (arith, within)) in
    let first = climbs points axis place more lower middle one here in
    let second = rises points (place + suc more) middle upper axis here (subst (λ at. slice_get points at ≡ Some upper) (omega arith) other) in
    omega (arith, first, second)

pub later : (points : List ℕ) → IsAxis points → (place place' lower upper : ℕ) → place < place' → slice_get points place ≡ Some lower → slice_get points place' ≡ Some upper → lower < upper
later points axis place place' lower upper less one other =
    let at : place + suc (place' - suc place) ≡ place' = omega (arith, less) in
    climbs points axis place (place' - suc place) lower upper one (subst (λ n. slice_get points n ≡ Some upper) (sym at) other)

-- at the first point there is none below it, and at the last none above it
pub data IsEnd (points : List ℕ) (point : ℕ) : Type 0 where
  at_first : slice_get points 0 ≡ Some point → IsEnd points point
  at_last : slice_get points (length points - 1) ≡ Some point → IsEnd points point

pub passed_end : (points : List ℕ) (quantity passed : ℕ) → IsPast points quantity passed → IsEnd points passed
passed_end points quantity passed (below point many here less) = at_first here
passed_end points quantity passed (above point many here more) = at_last here

pub many_points : (points : List ℕ) (quantity passed : ℕ) → IsPast points quantity passed → 1 < length points
many_points points quantity passed (below point many here less) = many
many_points points quantity passed (above point many here more) = many

-- the points are from the first to the last
pub from_first : (points : List ℕ) → IsAxis points → (place start point : ℕ) → slice_get points 0 ≡ Some start → slice_get points place ≡ Some point → start ≤ point
from_first points axis zero start point one other = omega (arith, same_point points 0 start point one other)
from_first points axis (suc place) start point one other = omega (arith, later points axis 0 (suc place) start point (omega arith) one other)

up_to_last : (points : List ℕ) → IsAxis points → (place behind end point : ℕ) → length points - 1 ≡ place + behind → slice_get points (length points - 1) ≡ Some end → slice_get points place ≡ Some point → point ≤ end
up_to_last points axis place zero end point is one other =
    omega (arith, same_point points place end point (subst (λ n. slice_get points n ≡ Some end) (omega (arith, is)) one) other)
up_to_last points axis place (suc behind) end point is one other =
    omega (arith, later points axis place (length points - 1) point end (omega (arith, is)) other one)

pub to_last : (points : List ℕ) → IsAxis points → (place end point : ℕ) → slice_get points (length points - 1) ≡ Some end → slice_get points place ≡ Some point → point ≤ end
to_last points axis place end point one other =
    up_to_last points axis place (length points - 1 - place) end point (omega (arith, slice_get_within points place point other)) one other

-- an axis has one end that a quantity is past
pub one_passed : (points : List ℕ) (quantity one other : ℕ) → IsAxis points → IsPast points quantity one → IsPast points quantity other → one ≡ other
one_passed points quantity one other axis (below _ many here less) (below _ many' here' less') = same_point points 0 one other here here'
one_passed points quantity one other axis (below _ many here less) (above _ many' here' more') = absurd (omega (arith, less, more', from_first points axis (length points - 1) one other here here'))
one_passed points quantity one other axis (above _ many here more) (below _ many' here' less') = absurd (omega (arith, more, less', from_first points axis (length points - 1) other one here' here))
one_passed points quantity one other axis (above _ many here more) (above _ many' here' more') = same_point points (length points - 1) one other here here'

-- a quantity between neighbours is past no end
not_within : (points : List ℕ) (quantity passed place lower upper : ℕ) → IsAxis points → slice_get points place ≡ Some lower → slice_get points (place + 1) ≡ Some upper
    → lower ≤ quantity → quantity ≤ upper → IsPast points quantity passed → ⊥
not_within points quantity passed place lower upper axis p q a b (below _ many here less) = absurd (omega (arith, less, a, from_first points axis place passed lower here p))
not_within points quantity passed place lower upper axis p q a b (above _ many here more) = absurd (omega (arith, more, b, to_last points axis (place + 1) passed upper here q))

pub not_past : (points : List ℕ) (quantity at passed : ℕ) (between : Between) → IsAxis points → AreNeighbours points quantity at between → IsPast points quantity passed → ⊥
not_past points quantity at passed between axis (neighbours place lower upper p q a b) past = not_within points quantity passed place lower upper axis p q a b past

-- where a quantity is refused past an axis it is past none
pub refused_within : (points : List ℕ) (quantity : ℕ) (between : Between) → IsAxis points → IsBetween points quantity Refuse between → ¬ IsPassed points quantity
refused_within points quantity between axis (sole one) passed = absurd (omega (arith, one, many_points points quantity passed.passed passed.past))
refused_within points quantity between axis (inside around) passed = not_past points quantity quantity passed.passed between axis around passed.past

-- weights at a number that is neither below nor above the neighbours are not negative
pub record AreWeights (between : Between) : Type 0 where
  pub low : pos 0 ≤ℤ between.low
  pub high : pos 0 ≤ℤ between.high

weights_between : (points : List ℕ) (near : ℕ) (between : Between) → AreNeighbours points near near between → AreWeights between
weights_between points near between (neighbours place lower upper p q a b) = record { low = omega (arith, ints, b); high = omega (arith, ints, a) }

pub not_extended : (points : List ℕ) (quantity : ℕ) (beyond : Beyond) (between : Between) → (beyond ≡ Extend → ⊥) → IsBetween points quantity beyond between → AreWeights between
not_extended points quantity beyond between other (sole one) = record { low = omega (arith, ints); high = omega (arith, ints) }
not_extended points quantity beyond between other (inside around) = weights_between points quantity between around
not_extended points quantity beyond between other (edge {passed = end} past around) = weights_between points end between around
not_extended points quantity beyond between other (extend past around) = absurd (other refl)

-- where no end is passed neither
pub not_passed : (points : List ℕ) (quantity : ℕ) (beyond : Beyond) (between : Between) → ¬ IsPassed points quantity → IsBetween points quantity beyond between → AreWeights between
not_passed points quantity beyond between within (sole one) = record { low = omega (arith, ints); high = omega (arith, ints) }
not_passed points quantity beyond between within (inside around) = weights_between points quantity between around
not_passed points quantity beyond between within (edge {passed = end} past around) = absurd (within (record { passed = end; past = past }))
not_passed points quantity beyond between within (extend {passed = end} past around) = absurd (within (record { passed = end; past = past }))

width_between : (points : List ℕ) (near at : ℕ) (between : Between) → IsAxis points → AreNeighbours points near at between → pos 1 ≤ℤ width between
width_between points near at between axis (neighbours place lower upper p q a b) = omega (arith, ints, rises points place lower upper axis p q)

-- the whole weight is positive
pub some_width : (points : List ℕ) (quantity : ℕ) (beyond : Beyond) (between : Between) → IsAxis points → IsBetween points quantity beyond between → pos 1 ≤ℤ width between
some_width points quantity beyond between axis (sole one) = omega (arith, ints)
some_width points quantity beyond between axis (inside around) = width_between points quantity quantity between axis around
some_width points quantity beyond between axis (edge {passed = end} past around) = width_between points end end between axis around
some_width points quantity beyond between axis (extend {passed = end} past around) = width_between points end quantity between axis around

pub on_sole : (points : List ℕ) → length points ≡ 1 → IsOn points (record { place = 0; low = pos 1; high = pos 0 })
on_sole points one =
    record { within = omega (arith, one); few = omega (arith, one); next = λ some. absurd (some refl); some = omega (arith, ints); small = omega (arith, ints); small_low = omega arith; small_high = omega arith }

pub on_pair : (points : List ℕ) (place lower upper at : ℕ) → IsAxis points → slice_get points place ≡ Some lower → slice_get points (place + 1) ≡ Some upper
    → at ≤ most → IsOn points (record { place = place; low = pos upper -ℤ pos at; high = pos at -ℤ pos lower })
on_pair points place lower upper at axis one other near =
    let within = slice_get_within points (place + 1) upper other in
    let rise = rises points place lower upper axis one other in
    let few = point_small points (place + 1) upper axis other in
    record {
      within = omega (arith, within);
      few = axis.few;
      next = λ _. within;
      some = omega (arith, ints, rise);
      small = omega (arith, ints, rise, few);
      small_low = omega (arith, ints, few, near);
      small_high = omega (arith, ints, rise, few, near);
    }

-- the end that is passed is a point of the axis
pub record IsWithin (points : List ℕ) (point : ℕ) : Type 0 where
  pub many : 1 < length points
  pub first : get_or points 0 0 ≤ point
  pub last : point ≤ get_or points (length points - 1) 0
  pub small : point ≤ most

pub end_within : (points : List ℕ) (quantity passed : ℕ) → IsAxis points → IsPast points quantity passed → IsWithin points passed
end_within points quantity passed axis (below _ many here less) =
    let end = slice_get-get_or points (length points - 1) 0 (omega (arith, many)) in
    record {
      many = many;
      first = omega (arith, get_or_from_slice_get points 0 passed 0 here);
      last = from_first points axis (length points - 1) passed (get_or points (length points - 1) 0) here end;
      small = point_small points 0 passed axis here;
    }
end_within points quantity passed axis (above _ many here more) =
    let start = slice_get-get_or points 0 0 (omega (arith, many)) in
    record {
      many = many;
      first = to_last points axis 0 passed (get_or points 0 0) here start;
      last = omega (arith, get_or_from_slice_get points (length points - 1) passed 0 here);
      small = point_small points (length points - 1) passed axis here;
    }
