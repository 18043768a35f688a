-- The slew behind a wire, of the slew before it and of the wire's Elmore sum (Elmore 1948). Slews are in attoseconds, Elmore sums
-- in 10^-27 s.
use Rattle.std.specs.Prelude.{◌≡◌, ℕ, ◌+◌, ◌*◌, ◌^◌, ℤ, pos}
use Rattle.delay_units.specs.Rounding.{IsRounding}
use Rattle.wire_slews.specs.Roots.{IsRoot}
use Rattle.corner_set.specs.declared.choices.WireSlew.{WireSlew}
use Rattle.corner_set.specs.declared.choices.WireSlew.TheVariants.{Same, Rss}

-- a slew is a microsecond at most
abbrev pub most_slew : ℕ
most_slew = 10 ^ 12

-- The same slew; or the root of the sum of its square and that of the wire's own slew, which is 2.197 times the Elmore sum, rounded.
pub data IsWireSlew : WireSlew → ℤ → ℕ → ℤ → Type 0 where
  same : (slew : ℤ) (elmore : ℕ) → IsWireSlew Same slew elmore slew
  rss : (slew elmore own behind : ℕ) → IsRounding (pos (2197 * elmore)) (pos (10 ^ 12)) (pos own)
      → IsRoot (slew * slew + own * own) behind → IsWireSlew Rss (pos slew) elmore (pos behind)

-- behind a wire there is one slew, and no second
abbrev pub OneWireSlew : Type 0
OneWireSlew = (mode : WireSlew) (slew elmore : ℕ)
    → (behind : ℤ) × IsWireSlew mode (pos slew) elmore behind × ((other : ℤ) → IsWireSlew mode (pos slew) elmore other → other ≡ behind)
