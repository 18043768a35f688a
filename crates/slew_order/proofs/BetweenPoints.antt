-- The two points that are taken around a quantity are what a lookup takes for it.
use Rattle.std.proofs.Common.{◌≡◌, ℕ, ◌+◌, ◌-◌, ◌<◌, ◌≤◌, true, false, nat_lt, nat_le, ◌==◌, ◌∙◌, ap, sym, refl, subst, List, length, slice_get, Some, inl, inr, ◌⊎◌, arith}
use Rattle.std.specs.List.{prefix_len}
use Rattle.std.proofs.lemmas.Bool.{cases_lt, cond_both, and_parts, and_from, or_cases, or_left, or_right, leb-true, leb-false, ltb-true, lt-ltb, eqb-true, eqb-false, true≢false}
use Rattle.std.proofs.lemmas.Option.{slice_get-get_or, get_or_from_slice_get}
use Rattle.std.proofs.lemmas.List.Sums.{prefix_len_passes, prefix_len_stops}
use Rattle.nldm_lookup.specs.Axes.{IsAxis}
use Rattle.nldm_lookup.specs.Betweens.{AreNeighbours, neighbours, IsPast, below, above, IsPassed, IsBetween, sole, inside, edge, extend}
use Rattle.corner_set.specs.declared.choices.Beyond.{Beyond}
use Rattle.corner_set.specs.declared.choices.Beyond.TheVariants.{Refuse, Edge, Extend}
use Rattle.nldm_lookup.proofs.Ends.{from_first, to_last}
use Rattle.nldm_lookup.proofs.Gaps.{rises}
use Rattle.slew_order.specs.Lookups.{point_at, last_point, is_passed, place_around, weighed_at, pair_at, between_on}

-- a quantity past an end
past_first : (points : List ℕ) (quantity : ℕ) → 1 < length points → quantity < point_at points 0 → IsPast points quantity (point_at points 0)
past_first points quantity many less = below (point_at points 0) many (slice_get-get_or points 0 0 (omega (arith, many))) less

past_last : (points : List ℕ) (quantity : ℕ) → 1 < length points → last_point points < quantity → IsPast points quantity (last_point points)
past_last points quantity many more = above (last_point points) many (slice_get-get_or points (length points - 1) 0 (omega (arith, many))) more

-- what its test says
past_either : (points : List ℕ) (quantity : ℕ) → 1 < length points
    → (nat_lt quantity (point_at points 0) ≡ true) ⊎ (nat_lt (last_point points) quantity ≡ true) → IsPassed points quantity
past_either points quantity many (inl less) =
    record { passed = point_at points 0; past = past_first points quantity many (ltb-true quantity (point_at points 0) less) }
past_either points quantity many (inr more) =
    record { passed = last_point points; past = past_last points quantity many (ltb-true (last_point points) quantity more) }

pub passed_where_true : (points : List ℕ) (quantity : ℕ) → is_passed points quantity ≡ true → IsPassed points quantity
passed_where_true points quantity is =
    let both = and_parts (nat_lt 1 (length points)) _ is in
    past_either points quantity (ltb-true 1 (length points) both.0) (or_cases (nat_lt quantity (point_at points 0)) (nat_lt (last_point points) quantity) both.1)

true_where_past : (points : List ℕ) (quantity passed : ℕ) → IsPast points quantity passed → is_passed points quantity ≡ true
true_where_past points quantity passed (below _ many here less) =
    let first = get_or_from_slice_get points 0 passed 0 here in
    and_from _ _ (lt-ltb 1 (length points) many)
    (or_left _ (nat_lt (last_point points) quantity) (lt-ltb quantity (point_at points 0) (omega (arith, first, less))))
true_where_past points quantity passed (above _ many here more) =
    let last = get_or_from_slice_get points (length points - 1) passed 0 here in
    and_from _ _ (lt-ltb 1 (length points) many)
    (or_right (nat_lt quantity (point_at points 0)) _ (lt-ltb (last_point points) quantity (omega (arith, last, more))))

pub within_where_false : (points : List ℕ) (quantity : ℕ) → is_passed points quantity ≡ false → ¬ IsPassed points quantity
within_where_false points quantity not passed = true≢false (sym (true_where_past points quantity passed.passed passed.past) ∙ not)

-- from the first point to the last one the two are weighed at the quantity itself, in each mode
unmoved : (points : List ℕ) (quantity : ℕ) (beyond : Beyond) → point_at points 0 ≤ quantity → quantity ≤ last_point points
    → quantity ≡ weighed_at points beyond quantity
unmoved points quantity Refuse low high = refl
unmoved points quantity Edge low high = omega (arith, low, high)
unmoved points quantity Extend low high = refl

several : (points : List ℕ) → IsAxis points → (length points ≡ 1 → ⊥) → 1 < length points
several points axis other = omega (arith, axis.some, other)

-- Two or more points of an axis.
module _ (points : List ℕ) (axis : IsAxis points) (quantity : ℕ) (many : 1 < length points) where
  there : (place : ℕ) → place < length points → slice_get points place ≡ Some (point_at points place)
  there place within = slice_get-get_or points place 0 within

  abbrev first : ℕ
  first = point_at points 0

  abbrev last : ℕ
  last = last_point points

  -- the two points around the quantity
  abbrev place : ℕ
  place = place_around points quantity

  abbrev lower : ℕ
  lower = point_at points place

  abbrev upper : ℕ
  upper = point_at points (place + 1)

  -- how many points, from the first on, are not above it
  abbrev reached : ℕ
  reached = prefix_len (λ point. nat_le point quantity) points

  lower_at_most : (place : ℕ) → place < reached → point_at points place ≤ quantity
  lower_at_most place less = leb-true (point_at points place) quantity (prefix_len_passes (λ point. nat_le point quantity) points place 0 less)

  next_is_above : reached < length points → quantity < point_at points reached
  next_is_above short = leb-false (point_at points reached) quantity (prefix_len_stops (λ point. nat_le point quantity) points 0 short)

  -- below the first point it is the first place
  first_place : quantity < first → place ≡ 0
  first_place less = elim (cases_lt 0 reached) [
    | inl some ↦ absurd (omega (arith, less, lower_at_most 0 some))
    | inr none ↦ omega (arith, none)
  ]

  -- above the last point it is the last place but one
  last_place : last < quantity → place ≡ length points - 2
  last_place more = elim (cases_lt reached (length points)) [
    | inl short ↦ absurd (omega (
      arith,
      more,
      next_is_above short,
      to_last points axis reached last (point_at points reached) (there (length points - 1) (omega (arith, many))) (there reached short),
    ))
    | inr all ↦ omega (arith, all)
  ]

  -- from the first to the last point the quantity is between the two
  lower_within : first ≤ quantity → lower ≤ quantity
  lower_within low = elim (cases_lt 0 reached) [
    | inl some ↦ lower_at_most place (omega (arith, some))
    | inr none ↦
        let start : reached ≡ 0 = omega (arith, none) in
        absurd (omega (arith, low, next_is_above (omega (arith, none, many)), ap (point_at points) start))
  ]

  upper_within : quantity ≤ last → quantity ≤ upper
  upper_within high = elim (cases_lt reached (length points)) [
    | inl short ↦ elim (cases_lt 0 reached) [
      | inl some ↦
          let next : place + 1 ≡ reached = omega (arith, some, short) in
          omega (arith, next_is_above short, ap (point_at points) next)
      | inr none ↦
          let start : reached ≡ 0 = omega (arith, none) in
          let here : place ≡ 0 = omega (arith, none) in
          omega (
            arith,
            next_is_above short,
            ap (point_at points) start,
            ap (λ place. point_at points (place + 1)) here,
            from_first points axis 1 first (point_at points 1) (there 0 (omega (arith, many))) (there 1 many),
          )
    ]
    | inr all ↦
        let at : place + 1 ≡ length points - 1 = omega (arith, all, many) in
        omega (arith, high, ap (point_at points) at)
  ]

  -- the two points are a pair, of which the lower is below the upper
  in_pair : place + 1 < length points
  in_pair = omega (arith, many)

  lower_there : slice_get points place ≡ Some lower
  lower_there = there place (omega (arith, in_pair))

  upper_there : slice_get points (place + 1) ≡ Some upper
  upper_there = there (place + 1) in_pair

  pair_rises : lower < upper
  pair_rises = rises points place _ _ axis lower_there upper_there

  around : (near at : ℕ) → lower ≤ near → near ≤ upper → AreNeighbours points near at (pair_at points place at)
  around near at low high = neighbours place _ _ lower_there upper_there low high

  around_first : (at : ℕ) → quantity < first → AreNeighbours points first at (pair_at points place at)
  around_first at less =
      let same = ap (point_at points) (first_place less) in
      around first at (omega (arith, same)) (omega (arith, same, pair_rises))

  around_last : (at : ℕ) → last < quantity → AreNeighbours points last at (pair_at points place at)
  around_last at more =
      let ends : place + 1 ≡ length points - 1 = omega (arith, last_place more, many) in
      let same = ap (point_at points) ends in
      around last at (omega (arith, same, pair_rises)) (omega (arith, same))

  ends_rise : first ≤ last
  ends_rise =
      from_first points axis (length points - 1) first last (there 0 (omega (arith, many))) (there (length points - 1) (omega (arith, many)))

  -- the points taken below the first one, above the last one, and between
  abbrev Taken : Beyond → Type 0
  Taken beyond = IsBetween points quantity beyond (pair_at points place (weighed_at points beyond quantity))

  taken_below : (beyond : Beyond) → (beyond ≡ Refuse → ¬ IsPassed points quantity) → quantity < first → Taken beyond
  taken_below Refuse within less = absurd (within refl (record { passed = first; past = past_first points quantity many less }))
  taken_below Edge within less =
      let at : weighed_at points Edge quantity ≡ first = omega (arith, less) in
      edge (past_first points quantity many less)
      (subst (λ n. AreNeighbours points first first (pair_at points place n)) (sym at) (around_first first less))
  taken_below Extend within less = extend (past_first points quantity many less) (around_first quantity less)

  taken_above : (beyond : Beyond) → (beyond ≡ Refuse → ¬ IsPassed points quantity) → last < quantity → Taken beyond
  taken_above Refuse within more = absurd (within refl (record { passed = last; past = past_last points quantity many more }))
  taken_above Edge within more =
      let at : last ≡ weighed_at points Edge quantity = omega (arith, more, ends_rise) in
      edge (past_last points quantity many more)
      (subst (λ n. AreNeighbours points last last (pair_at points place n)) at (around_last last more))
  taken_above Extend within more = extend (past_last points quantity many more) (around_last quantity more)

  taken_within : (beyond : Beyond) → first ≤ quantity → quantity ≤ last → Taken beyond
  taken_within beyond low high =
      let at : quantity ≡ weighed_at points beyond quantity = unmoved points quantity beyond low high in
      inside (subst (λ n. AreNeighbours points quantity quantity (pair_at points place n)) at
      (around quantity quantity (lower_within low) (upper_within high)))

  taken : (beyond : Beyond) → (beyond ≡ Refuse → ¬ IsPassed points quantity) → Taken beyond
  taken beyond within = elim (cases_lt quantity first) [
    | inl less ↦ taken_below beyond within less
    | inr low ↦ elim (cases_lt last quantity) [
      | inl more ↦ taken_above beyond within more
      | inr high ↦ taken_within beyond low high
    ]
  ]

-- what is taken for a quantity, where it is not refused
pub between_is : (points : List ℕ) (quantity : ℕ) (beyond : Beyond) → IsAxis points → (beyond ≡ Refuse → ¬ IsPassed points quantity)
    → IsBetween points quantity beyond (between_on points quantity beyond)
between_is points quantity beyond axis within =
    cond_both (length points == 1) _ _ (λ between. IsBetween points quantity beyond between)
    (λ one. sole (eqb-true (length points) 1 one))
    (λ other. taken points axis quantity (several points axis (eqb-false (length points) 1 other)) beyond within)
