-- Counts that only rise, and stand still at the last value of 64 bits.
use Rattle.std.specs.Prelude.{◌≡◌, ℕ, ◌+◌, ◌-◌, ◌^◌, ◌≤◌, min, max}

-- the count rose, or it stands at its last value
abbrev pub Rose : ℕ → ℕ → Type 0
Rose before now = min (before + 1) (2 ^ 64 - 1) ≤ now

-- so many more, or the last value
abbrev pub raised : ℕ → ℕ → ℕ
raised many before = max before (min (before + many) (2 ^ 64 - 1))

-- the count rose by exactly so many, or it stands at its last value
abbrev pub RoseBy : ℕ → ℕ → ℕ → Type 0
RoseBy many before now = now ≡ raised many before

-- what is known of a shelf that does not tell what it holds
pub record ShelfCounts : Type 0 where
  pub faults : ℕ
  pub opens : ℕ
  pub reads : ℕ

-- no call so far
abbrev pub no_counts : ShelfCounts
no_counts = record { faults = 0; opens = 0; reads = 0 }
