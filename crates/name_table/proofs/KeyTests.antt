-- Two keys are told apart by their tails and their heads.
use Rattle.std.proofs.Common.{◌≡◌, Bool, true, false, cond, refl, sym}
use Rattle.std.specs.Str.{bytes_eq}
use Rattle.name_table.specs.NodeKeys.{Key, same_key, same_tail}

-- where the tails are the same, the heads tell
pub heads_tell : (one other : Key) → same_tail one.tail other.tail ≡ true → bytes_eq one.head other.head ≡ same_key one other
unfolding same_key
heads_tell one other tails = by (bytes_eq one.head other.head)
  where
    by : (heads : Bool) → heads ≡ cond heads (same_tail one.tail other.tail) false
    by true = sym tails
    by false = refl

pub tails_differ : (one other : Key) → same_tail one.tail other.tail ≡ false → false ≡ same_key one other
unfolding same_key
tails_differ one other tails = by (bytes_eq one.head other.head)
  where
    by : (heads : Bool) → false ≡ cond heads (same_tail one.tail other.tail) false
    by true = sym tails
    by false = refl
