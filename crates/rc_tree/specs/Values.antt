-- Values that are kept row after row, and in each row by corner, read as numbers of grains; 0 where there is none.
use Rattle.std.specs.Prelude.{ℕ, List, slice_index_or}
use Rattle.corner_set.specs.Places.{place}
use Rattle.delay_units.specs.declared.quantities.Farads.{Farads}
use Rattle.delay_units.specs.declared.quantities.Ohms.{Ohms}

-- a capacitance in grains of 10^-21 F
abbrev pub farads_at : ℕ → List Farads → ℕ → ℕ → ℕ
farads_at count values row number = (slice_index_or values (place count row number) (record { 0 = 0 })).0

-- a resistance in grains of 10^-6 ohm
abbrev pub ohms_at : ℕ → List Ohms → ℕ → ℕ → ℕ
ohms_at count values row number = (slice_index_or values (place count row number) (record { 0 = 0 })).0
