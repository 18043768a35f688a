-- Parts of a list of times that can be printed, and lists joined.
use Rattle.std.proofs.Common.{ℕ, zero, suc, ◌^◌, ◌<◌, ◌≤◌, List, [], ◌∷◌, ◌++◌, length, take, drop, get_or, unsigned_abs, arith}
use Rattle.delay_units.specs.declared.Femto.{Femto}
use Rattle.sdf_writer.specs.Bounds.{AreWithin}

pub within_at : (times : List Femto) (i : ℕ) (d : Femto) → AreWithin times → i < length times → unsigned_abs (get_or times i d).0 ≤ 10 ^ 27
within_at [] i d all below = absurd (omega arith)
within_at (time ∷ times) zero d all below = all.0
within_at (time ∷ times) (suc i) d all below = within_at times i d all.1 (omega arith)

pub within_take : (n : ℕ) (times : List Femto) → AreWithin times → AreWithin (take n times)
within_take zero times all = tt
within_take (suc n) [] all = tt
within_take (suc n) (time ∷ times) all = (all.0, within_take n times all.1)

pub within_drop : (n : ℕ) (times : List Femto) → AreWithin times → AreWithin (drop n times)
within_drop zero times all = all
within_drop (suc n) [] all = tt
within_drop (suc n) (time ∷ times) all = within_drop n times all.1

pub within_append : (first second : List Femto) → AreWithin first → AreWithin second → AreWithin (first ++ second)
within_append [] second all more = more
within_append (time ∷ times) second all more = (all.0, within_append times second all.1 more)
