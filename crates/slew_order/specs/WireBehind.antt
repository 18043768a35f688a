-- The slew behind a wire as a number. Slews are in attoseconds, Elmore sums in 10^-27 s.
use Rattle.std.specs.Prelude.{◌≡◌, ◌↔◌, ◌≤◌, pos, ℕ, zero, suc, ◌+◌, ◌*◌, ◌/◌, ◌^◌, nat_le, if◌then◌else◌, Option, Some, None}
use Rattle.wire_slews.specs.WireSlews.{IsWireSlew, most_slew}
use Rattle.corner_set.specs.declared.choices.WireSlew.{WireSlew}
use Rattle.corner_set.specs.declared.choices.WireSlew.TheVariants.{Same, Rss}

-- the largest number up to a bound whose square is at most n
unfoldable pub root_up_to : ℕ → ℕ → ℕ
root_up_to n zero = zero
root_up_to n (suc r) = if nat_le (suc r * suc r) n then suc r else root_up_to n r

-- the root of n, rounded down
abbrev pub root : ℕ → ℕ
root n = root_up_to n n

-- a wire's own slew: 2.197 times its Elmore sum, rounded half up
unfoldable pub own_slew : ℕ → ℕ
own_slew elmore = (2 * (2197 * elmore) + 10 ^ 12) / (2 * 10 ^ 12)

-- the slew behind a wire of an Elmore sum
abbrev pub slew_behind : WireSlew → ℕ → ℕ → ℕ
slew_behind Same elmore slew = slew
slew_behind Rss elmore slew = root (slew * slew + own_slew elmore * own_slew elmore)

-- the same, and none past a microsecond
abbrev pub wire_of : WireSlew → ℕ → ℕ → Option ℕ
wire_of mode elmore slew = if nat_le (slew_behind mode elmore slew) most_slew then Some (slew_behind mode elmore slew) else None

-- that is the one slew that the relation of wires has, where it is a microsecond at most, and nothing else is
abbrev pub WireFunction : Type 0
WireFunction = (mode : WireSlew) (elmore slew made : ℕ)
    → (wire_of mode elmore slew ≡ Some made) ↔ (IsWireSlew mode (pos slew) elmore (pos made) × made ≤ most_slew)
