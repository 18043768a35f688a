-- The times of an edge at all corners.
use Rattle.std.proofs.Common.{◌≡◌, ℕ, zero, suc, ◌+◌, ◌<◌, ◌≤◌, ◌∙◌, ap, sym, refl, subst, List, ◌∷◌, map, length, set, Option, Some, None, ℤ, pos, inl, inr, is_some, true≢false, arith}
use Rattle.std.specs.List.{range_with_len}
use Rattle.std.specs.Prelude.{IsSome}
use Rattle.std.proofs.lemmas.Bool.{cases_lt}
use Rattle.corner_set.specs.Places.{place}
use Rattle.delay_units.specs.declared.Femto.{Femto}
use Rattle.sdf_writer.specs.Bounds.{AreWithin}
use Rattle.annotation_rows.specs.WireRows.{at_corners}
use Rattle.annotation_rows.specs.PathRows.{IsPrinted, all_times, with_time}
use Rattle.annotation_rows.proofs.Filling.{IsFilled, filled_none, filled_more, filled_all, filled_within}

-- the time of a value, where there is one
abbrev pub time_of : Option ℤ → Femto
time_of None = record { 0 = pos 0 }
time_of (Some value) = record { 0 = value }

-- the first so many are there, and are put
pub record AreTimesTo (value : ℕ → Option ℤ) (count many : ℕ) (times : List Femto) : Type 0 where
  pub filled : IsFilled (λ corner. time_of (value corner)) count many times
  pub there : (corner : ℕ) → corner < many → IsSome (value corner)

pub times_none : (value : ℕ → Option ℤ) (count : ℕ) (times : List Femto) → length times ≡ count → AreTimesTo value count 0 times
times_none value count times len = record {
  filled = filled_none (λ corner. time_of (value corner)) count times len;
  there = λ corner below. absurd (omega (arith, below));
}

some_there : (value : Option ℤ) (delay : ℤ) → value ≡ Some delay → IsSome value
some_there value delay is = ap (λ v. is_some v) is

pub time_next : (value : ℕ → Option ℤ) (count many : ℕ) (times after : List Femto) (delay : ℤ) → many < count → AreTimesTo value count many times
    → value many ≡ Some delay → IsPrinted (value many) → after ≡ set times (place count 0 many) (record { 0 = delay }) → AreTimesTo value count (many + 1) after
time_next value count many times after delay below held is printed set_is = record {
  filled = filled_more (λ corner. time_of (value corner)) count many times after (record { 0 = delay }) below held.filled set_is
      (sym (ap time_of is)) (subst IsPrinted is printed);
  there = λ corner less. elim (cases_lt corner many) [
    | inl before ↦ held.there corner before
    | inr more ↦ (let at : many ≡ corner = omega (arith, less, more) in subst (λ k. IsSome (value k)) at (some_there (value many) delay is))
  ];
}

all_cons : (value : ℕ → Option ℤ) (from : ℕ) (behind : List (Option ℤ)) (times : List Femto) (first : Option ℤ) → value from ≡ first → IsSome first
    → all_times behind ≡ Some times → all_times (value from ∷ behind) ≡ Some (time_of (value from) ∷ times)
all_cons value from behind times None is some rest = absurd (true≢false (sym some))
all_cons value from behind times (Some delay) is some rest =
    ap (λ v. all_times (v ∷ behind)) is ∙ ap (with_time delay) rest ∙ ap (λ (v : Option ℤ). Some (time_of v ∷ times)) (sym is)

pub all_from : (value : ℕ → Option ℤ) (from n : ℕ) → ((corner : ℕ) → from ≤ corner → corner < from + n → IsSome (value corner))
    → all_times (map value (range_with_len from n)) ≡ Some (map (λ corner. time_of (value corner)) (range_with_len from n))
all_from value from zero there = refl
all_from value from (suc n) there =
    all_cons value from (map value (range_with_len (from + 1) n)) (map (λ corner. time_of (value corner)) (range_with_len (from + 1) n)) (value from) refl
    (there from (omega arith) (omega arith))
    (all_from value (from + 1) n (λ corner low high. there corner (omega (arith, low)) (omega (arith, high))))

none_cons : (value : ℕ → Option ℤ) (from corner : ℕ) (behind : List (Option ℤ)) (first : Option ℤ) → value from ≡ first → from ≤ corner → value corner ≡ None
    → (from + 1 ≤ corner → all_times behind ≡ None) → all_times (value from ∷ behind) ≡ None
none_cons value from corner behind None is low none rest = ap (λ v. all_times (v ∷ behind)) is
none_cons value from corner behind (Some delay) is low none rest = elim (cases_lt from corner) [
  | inl less ↦ ap (λ v. all_times (v ∷ behind)) is ∙ ap (with_time delay) (rest (omega (arith, less)))
  | inr at ↦ absurd (let same : from ≡ corner = omega (arith, low, at) in true≢false (ap (λ v. is_some v) (sym is ∙ ap value same ∙ none)))
]

none_from : (value : ℕ → Option ℤ) (from n corner : ℕ) → from ≤ corner → corner < from + n → value corner ≡ None
    → all_times (map value (range_with_len from n)) ≡ None
none_from value from zero corner low high is = absurd (omega (arith, low, high))
none_from value from (suc n) corner low high is =
    none_cons value from corner (map value (range_with_len (from + 1) n)) (value from) refl low is
    (λ more. none_from value (from + 1) n corner more (omega (arith, high)) is)

pub times_all : (value : ℕ → Option ℤ) (count many : ℕ) (times : List Femto) → many ≡ count → AreTimesTo value count many times
    → all_times (at_corners value count) ≡ Some times
times_all value count many times all held =
    all_from value 0 count (λ corner low high. held.there corner (omega (arith, high, all)))
    ∙ ap Some (sym (filled_all (λ corner. time_of (value corner)) count many times all held.filled))

pub times_within : (value : ℕ → Option ℤ) (count many : ℕ) (times : List Femto) → many ≡ count → AreTimesTo value count many times → AreWithin times
times_within value count many times all held = filled_within (λ corner. time_of (value corner)) count many times all held.filled

pub times_missing : (value : ℕ → Option ℤ) (count corner : ℕ) → corner < count → value corner ≡ None → all_times (at_corners value count) ≡ None
times_missing value count corner below is = none_from value 0 count corner (omega arith) (omega (arith, below)) is
