-- Where a quantity lies: in no gap past the ends, and in one with weights that sum to the gap's width.
use Rattle.std.proofs.Common.{◌≡◌, ℕ, ◌+◌, ◌<◌, ◌≤◌, ◌∙◌, ap, sym, refl, ℤ, pos, ◌≤ℤ◌, ◌<ℤ◌, List, length, map, get_or, All, slice_get, Some, arith}
use Rattle.std.proofs.lemmas.Int.{ints}
use Rattle.std.proofs.lemmas.Option.{slice_get_within, slice_get-map, get_or_from_slice_get}
use Rattle.std.proofs.lemmas.List.{length-map, get_or-map}
use Rattle.std.proofs.lemmas.List.Elements.{All-get_or, All-from_get_or}
use Rattle.std.proofs.Math.Nat.{lt_of_not-le}
use Rattle.std.proofs.Common.{option_map, subst}
use Rattle.nldm_lookup.specs.Axes.{IsAxis, FallsAt, most, most_points}

same_integer : (points : List ℤ) (place : ℕ) (one other : ℤ) → slice_get points place ≡ Some one → slice_get points place ≡ Some other → one ≡ other
same_integer points place one other a b = sym (get_or_from_slice_get points place one (pos 0) a) ∙ get_or_from_slice_get points place other (pos 0) b

pub same_point : (points : List ℕ) (place : ℕ) (one other : ℕ) → slice_get points place ≡ Some one → slice_get points place ≡ Some other → one ≡ other
same_point points place one other a b = sym (get_or_from_slice_get points place one 0 a) ∙ get_or_from_slice_get points place other 0 b

-- a point of an axis as an integer
as_integer : (points : List ℕ) (place point : ℕ) → slice_get points place ≡ Some point → slice_get (map pos points) place ≡ Some (pos point)
as_integer points place point here = slice_get-map pos points place ∙ ap (option_map pos) here

pub rises : (points : List ℕ) (place lower upper : ℕ) → IsAxis points → slice_get points place ≡ Some lower → slice_get points (place + 1) ≡ Some upper → lower < upper
rises points place lower upper axis one other =
    lt_of_not-le (λ below. axis.rising (place + 1) (record { before = place; one = pos lower; other = pos upper; next = refl; earlier = as_integer points place lower one; here = as_integer points (place + 1) upper other; falls = omega (arith, ints, below) }))

pub point_small : (points : List ℕ) (place point : ℕ) → IsAxis points → slice_get points place ≡ Some point → point ≤ most
point_small points place point axis here =
    subst (λ x. x ≤ most) (get_or_from_slice_get points place point 0 here) (All-get_or (λ x. x ≤ most) points place 0 (slice_get_within points place point here) axis.small)

-- the first place has none before it
pub no_first_fall : (points : List ℤ) (place : ℕ) → place < 1 → ¬ FallsAt points place
no_first_fall points place first fall = absurd (omega (arith, first, fall.next))

-- past the last place there is no point
pub no_later_fall : (points : List ℤ) (place : ℕ) → length points ≤ place → ¬ FallsAt points place
no_later_fall points place past fall = absurd (omega (arith, past, slice_get_within points place fall.other fall.here))

-- a point above the one before does not fall
pub no_fall : (points : List ℤ) (place before : ℕ) (one other : ℤ) → place ≡ before + 1 → slice_get points before ≡ Some one → slice_get points place ≡ Some other → one <ℤ other → ¬ FallsAt points place
no_fall points place before one other next earlier here rises fall =
    let same : fall.before ≡ before = omega (arith, next, fall.next) in
    let low = same_integer points before fall.one one (subst (λ at. slice_get points at ≡ Some fall.one) same fall.earlier) earlier in
    let high = same_integer points place fall.other other fall.here here in
    absurd (omega (arith, ints, low, high, rises, fall.falls))

-- the kept points are an axis where those that were given have no fault
pub kept_axis : (kept : List ℕ) (points : List ℤ) → map pos kept ≡ points → 0 < length points → length points ≤ most_points → ((place : ℕ) → ¬ FallsAt points place)
    → All (λ point. point ≤ℤ pos most) points → IsAxis kept
kept_axis kept points same some few rising small =
    let size : length kept ≡ length points = sym (length-map kept pos) ∙ ap length same in
    record {
      some = omega (arith, size, some);
      few = omega (arith, size, few);
      rising = λ place. subst (λ at. ¬ FallsAt at place) (sym same) (rising place);
      small = All-from_get_or (λ point. point ≤ most) kept 0 (λ place within.
          let at : get_or (map pos kept) place (pos 0) ≡ pos (get_or kept place 0) = get_or-map pos kept place 0 (pos 0) within in
          let less : get_or points place (pos 0) ≤ℤ pos most = All-get_or (λ point. point ≤ℤ pos most) points place (pos 0) (omega (arith, size, within)) small in
          let less_kept : get_or (map pos kept) place (pos 0) ≤ℤ pos most = subst (λ at. get_or at place (pos 0) ≤ℤ pos most) (sym same) less in
          omega (arith, ints, at, less_kept));
    }
