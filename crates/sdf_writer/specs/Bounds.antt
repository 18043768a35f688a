-- Which times are printed.
use Rattle.std.specs.Prelude.{ℕ, zero, suc, ◌≤◌, ◌^◌, List, [], ◌∷◌, unsigned_abs, replicate, slice_set, ⊤}
use Rattle.delay_units.specs.declared.Femto.{Femto}

-- each is at most 10^27 femtoseconds in size
abbrev pub AreWithin : List Femto → Type 0
AreWithin [] = ⊤
AreWithin (time ∷ times) = (unsigned_abs time.0 ≤ 10 ^ 27) × AreWithin times

-- copies of such a time
pub within_replicate : (n : ℕ) (time : Femto) → unsigned_abs time.0 ≤ 10 ^ 27 → AreWithin (replicate n time)
within_replicate zero time small = tt
within_replicate (suc n) time small = (small, within_replicate n time small)

-- one of them replaced
pub within_set : (times : List Femto) (i : ℕ) (time : Femto) → AreWithin times → unsigned_abs time.0 ≤ 10 ^ 27
    → AreWithin (slice_set times i time)
within_set [] i time all small = tt
within_set (first ∷ times) zero time all small = (small, all.1)
within_set (first ∷ times) (suc i) time all small = (all.0, within_set times i time all.1 small)
