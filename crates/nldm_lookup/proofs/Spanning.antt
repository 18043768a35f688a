-- A lookup at a slew and a load that are past no end of an axis has a value.
use Rattle.std.proofs.Common.{◌≡◌, ℕ, ◌≤◌, true, refl, Result, Ok, Err, ℤ, pos, negsuc, unsigned_abs, arith}
use Rattle.std.specs.Result.{is_ok}
use Rattle.nldm_lookup.specs.Betweens.{IsPassed}
use Rattle.nldm_lookup.specs.Tables.{TimingTable, IsTable}
use Rattle.nldm_lookup.specs.Interpolant.{not_below, far, quotient, IsLookupEnd, slew_outside, load_outside, far_load, far_value, IsLookup}
use Rattle.corner_set.specs.declared.choices.Beyond.{Beyond}
use Rattle.corner_set.specs.declared.choices.Beyond.TheVariants.{Extend}
use Rattle.nldm_lookup.specs.declared.faults.LookupEnd.{LookupEnd}
use Rattle.nldm_lookup.specs.declared.grain.Grain.{Grain}
use Rattle.nldm_lookup.specs.declared.grain.Grain.TheVariants.{Atto, Femto}
use Rattle.nldm_lookup.proofs.Answering.{within_time}
use Rattle.nldm_lookup.proofs.Ends.{not_passed, some_width}
use Rattle.nldm_lookup.proofs.Sizes.{weighed_small}

-- a value does not grow where it is kept from below 0
kept_small : (grain : Grain) (value : ℤ) → unsigned_abs (not_below Extend grain value) ≤ unsigned_abs value
kept_small Atto (pos n) = omega arith
kept_small Atto (negsuc n) = omega arith
kept_small Femto value = omega arith

no_end : (table : TimingTable) (slew load : ℕ) (grain : Grain) (beyond : Beyond) (end : LookupEnd) → IsTable table
    → ¬ IsPassed table.slew slew → ¬ IsPassed table.load load → IsLookupEnd table slew load grain beyond end → ⊥
no_end table slew load grain beyond end whole on_slew on_load (slew_outside past) = on_slew past
no_end table slew load grain beyond end whole on_slew on_load (load_outside within past) = on_load past
no_end table slew load grain beyond end whole on_slew on_load (far_load (far past large)) = on_load past
no_end table slew load grain beyond end whole on_slew on_load (far_value rounded (quotient one other a b rounds) large) =
    absurd (omega (
      arith,
      large,
      kept_small grain rounded,
      within_time table grain one other rounded (not_passed table.slew slew Extend one on_slew a) (not_passed table.load load Extend other on_load b)
          (some_width table.slew slew Extend one whole.slew a) (some_width table.load load Extend other whole.load b)
          (weighed_small table one other whole) rounds,
    ))

pub spanned_value : (table : TimingTable) (slew load : ℕ) (grain : Grain) (beyond : Beyond) (answer : Result ℤ LookupEnd) → IsTable table
    → ¬ IsPassed table.slew slew → ¬ IsPassed table.load load → IsLookup table slew load grain beyond answer → is_ok answer ≡ true
spanned_value table slew load grain beyond (Ok value) whole on_slew on_load is = refl
spanned_value table slew load grain beyond (Err end) whole on_slew on_load is = absurd (no_end table slew load grain beyond end whole on_slew on_load is)
