-- The value of a table at a slew and a load, bilinear between neighbouring points (nonlinear delay model), or why it has none.
use Rattle.std.specs.Prelude.{◌≡◌, ℕ, ◌+◌, ◌^◌, ◌<◌, ◌≤◌, ℤ, pos, negsuc, ◌+ℤ◌, ◌*ℤ◌, unsigned_abs, Result, Ok, Err}
use Rattle.delay_units.specs.Rounding.{IsRounding}
use Rattle.nldm_lookup.specs.Axes.{most}
use Rattle.nldm_lookup.specs.Betweens.{Between, IsBetween, IsPassed, width}
use Rattle.nldm_lookup.specs.Tables.{TimingTable, IsTable, value_at}
use Rattle.corner_set.specs.declared.choices.Beyond.{Beyond}
use Rattle.corner_set.specs.declared.choices.Beyond.TheVariants.{Refuse, Extend}
use Rattle.nldm_lookup.specs.declared.grain.Grain.{Grain}
use Rattle.nldm_lookup.specs.declared.grain.Grain.TheVariants.{Atto, Femto}
use Rattle.nldm_lookup.specs.declared.faults.LookupEnd.{LookupEnd}
use Rattle.nldm_lookup.specs.declared.faults.LookupEnd.TheVariants.{Outside, PastTime}
use Rattle.nldm_lookup.specs.declared.faults.Which.TheVariants.{Slew, Load}

-- how many attoseconds a grain has, and how many grains a microsecond
abbrev pub attos_in : Grain → ℕ
attos_in Atto = 1
attos_in Femto = 1000

abbrev pub most_in : Grain → ℕ
most_in Atto = 10 ^ 12
most_in Femto = 10 ^ 9

-- the four values around, each by its weights
abbrev pub weighed : TimingTable → Between → Between → ℤ
weighed table slew load =
    (((value_at table slew.place load.place *ℤ (slew.low *ℤ load.low))
    +ℤ (value_at table slew.place (load.place + 1) *ℤ (slew.low *ℤ load.high)))
    +ℤ (value_at table (slew.place + 1) load.place *ℤ (slew.high *ℤ load.low)))
    +ℤ (value_at table (slew.place + 1) (load.place + 1) *ℤ (slew.high *ℤ load.high))

-- the quotient of the weighed values and the whole weight, rounded once to the grain
pub data IsQuotient (table : TimingTable) (slew load : ℕ) (grain : Grain) (beyond : Beyond) (value : ℤ) : Type 0 where
  quotient : (on_slew on_load : Between) → IsBetween table.slew slew beyond on_slew → IsBetween table.load load beyond on_load
      → IsRounding (weighed table on_slew on_load) ((width on_slew *ℤ width on_load) *ℤ pos (attos_in grain)) value
      → IsQuotient table slew load grain beyond value

-- a transition is not extended to less than 0
abbrev pub not_below : Beyond → Grain → ℤ → ℤ
not_below Extend Atto (negsuc _) = pos 0
not_below _ _ value = value

-- `Extend` goes no further than a load of a nanofarad
pub data IsFar (table : TimingTable) (load : ℕ) : Beyond → Type 0 where
  far : IsPassed table.load load → most < load → IsFar table load Extend

-- The value of a table: that quotient, of at most a microsecond in size.
pub record IsInterpolant (table : TimingTable) (slew load : ℕ) (grain : Grain) (beyond : Beyond) (value : ℤ) : Type 0 where
  pub near : ¬ IsFar table load beyond
  pub rounded : ℤ
  pub quotient : IsQuotient table slew load grain beyond rounded
  pub kept : value ≡ not_below beyond grain rounded
  pub small : unsigned_abs value ≤ most_in grain

-- Why a table has none. `Refuse` names the quantity that is past its axis, the slew before the load. `Extend` leads past a microsecond.
pub data IsLookupEnd (table : TimingTable) (slew load : ℕ) (grain : Grain) : Beyond → LookupEnd → Type 0 where
  slew_outside : IsPassed table.slew slew → IsLookupEnd table slew load grain Refuse (Outside (record { axis = Slew; value = slew }))
  load_outside : ¬ IsPassed table.slew slew → IsPassed table.load load
      → IsLookupEnd table slew load grain Refuse (Outside (record { axis = Load; value = load }))
  far_load : IsFar table load Extend → IsLookupEnd table slew load grain Extend PastTime
  far_value : (rounded : ℤ) → IsQuotient table slew load grain Extend rounded
      → most_in grain < unsigned_abs (not_below Extend grain rounded) → IsLookupEnd table slew load grain Extend PastTime

-- a lookup has a value, or an end
abbrev pub IsLookup : TimingTable → ℕ → ℕ → Grain → Beyond → Result ℤ LookupEnd → Type 0
IsLookup table slew load grain beyond (Ok value) = IsInterpolant table slew load grain beyond value
IsLookup table slew load grain beyond (Err end) = IsLookupEnd table slew load grain beyond end

-- a lookup has at most one answer, whichever neighbours are taken
abbrev pub OneLookup : Type 0
OneLookup = (table : TimingTable) (slew load : ℕ) (grain : Grain) (beyond : Beyond) (answer other : Result ℤ LookupEnd) → IsTable table
    → IsLookup table slew load grain beyond answer → IsLookup table slew load grain beyond other → answer ≡ other
