-- What a lookup answers.
use Rattle.std.proofs.Common.{◌≡◌, ℕ, ◌*◌, ◌<◌, ◌≤◌, ◌∙◌, ap, sym, refl, subst, Result, Ok, Err, ℤ, pos, negsuc, ◌*ℤ◌, ◌≤ℤ◌, unsigned_abs, FitsSigned, of_z, arith}
use Rattle.std.specs.Result.{IfOk, IfErr, OnErr}
use Rattle.std.specs.Int.{w64}
use Rattle.std.proofs.lemmas.Int.{ints, fits_signed_from_abs}
use Rattle.delay_units.specs.Rounding.{IsRounding}
use Rattle.delay_units.proofs.RoundingLemmas.{one_rounding_lem}
use Rattle.nldm_lookup.specs.Axes.{IsAxis, most}
use Rattle.nldm_lookup.specs.AxisEnds.{IsAxisEnd, refused, far as axis_far}
use Rattle.nldm_lookup.specs.Betweens.{Between, IsBetween, IsPassed, width}
use Rattle.nldm_lookup.specs.Tables.{TimingTable, IsTable}
use Rattle.nldm_lookup.specs.Interpolant.{weighed, attos_in, most_in, not_below, IsFar, far, quotient, IsInterpolant, IsLookupEnd, slew_outside, load_outside, far_load, far_value, IsLookup}
use Rattle.nldm_lookup.specs.Rows.{size_of}
use Rattle.corner_set.specs.declared.choices.Beyond.{Beyond}
use Rattle.corner_set.specs.declared.choices.Beyond.TheVariants.{Refuse, Edge, Extend}
use Rattle.nldm_lookup.specs.declared.faults.LookupEnd.{LookupEnd}
use Rattle.nldm_lookup.specs.declared.faults.LookupEnd.TheVariants.{PastTime}
use Rattle.nldm_lookup.specs.declared.faults.Which.TheVariants.{Slew, Load}
use Rattle.nldm_lookup.specs.declared.grain.Grain.{Grain}
use Rattle.nldm_lookup.specs.declared.grain.Grain.TheVariants.{Atto, Femto}
use Rattle.nldm_lookup.proofs.Ends.{AreWeights, refused_within, not_extended, some_width}
use Rattle.nldm_lookup.proofs.OneValue.{one_lookup_lem}
use Rattle.nldm_lookup.proofs.Roundings.{rounding_small}
use Rattle.nldm_lookup.proofs.Scaling.{product_some}

-- a weight is that number in its bits, and has no bits where it is nothing
pub weight_fits : (weight : ℤ) → unsigned_abs weight ≤ most → FitsSigned w64 weight
weight_fits weight small = fits_signed_from_abs w64 weight (omega (arith, small))

pub no_bits : (weight : ℤ) → unsigned_abs weight ≤ most → of_z w64 weight ≡ 0 → weight ≡ pos 0
no_bits (pos n) small none = ap pos none
no_bits (negsuc n) small none = absurd (omega (arith, small, none))

-- the whole weight is positive
area_some : (a b : ℤ) (g : ℕ) → pos 1 ≤ℤ a → pos 1 ≤ℤ b → 1 ≤ g → pos 1 ≤ℤ ((a *ℤ b) *ℤ pos g)
area_some a b g one other third = product_some (a *ℤ b) (pos g) (product_some a b one other) (omega (arith, ints, third))

-- an end of one axis is one of the lookup
module _ (table : TimingTable) (slew load : ℕ) (grain : Grain) where
  pub refused_slew : (beyond : Beyond) (end : LookupEnd) → slew ≤ most → IsAxisEnd table.slew Slew slew beyond end → IsLookupEnd table slew load grain beyond end
  refused_slew beyond end small (refused past) = slew_outside past
  refused_slew beyond end small (axis_far past large) = absurd (omega (arith, small, large))

  pub refused_load : (beyond : Beyond) (end : LookupEnd) (on_slew : Between) → IsAxis table.slew → IsBetween table.slew slew beyond on_slew → IsAxisEnd table.load Load load beyond end
      → IsLookupEnd table slew load grain beyond end
  refused_load beyond end on_slew axis taken (refused past) = load_outside (refused_within table.slew slew on_slew axis taken) past
  refused_load beyond end on_slew axis taken (axis_far past large) = far_load (far past large)

  not_far : (beyond : Beyond) → (beyond ≡ Extend → IsPassed table.load load → load ≤ most) → ¬ IsFar table load beyond
  not_far beyond near (far past large) = absurd (omega (arith, large, near refl past))

  pub found : (beyond : Beyond) (on_slew on_load : Between) (rounded value : ℤ) → IsBetween table.slew slew beyond on_slew → IsBetween table.load load beyond on_load
      → (beyond ≡ Extend → IsPassed table.load load → load ≤ most)
      → IsRounding (weighed table on_slew on_load) ((width on_slew *ℤ width on_load) *ℤ pos (attos_in grain)) rounded
      → value ≡ not_below beyond grain rounded → unsigned_abs value ≤ most_in grain → IsInterpolant table slew load grain beyond value
  found beyond on_slew on_load rounded value a b near rounds kept small =
      record { near = not_far beyond near; rounded = rounded; quotient = quotient on_slew on_load a b rounds; kept = kept; small = small }

-- weights that are not negative sum to their sizes
natural_width : (between : Between) → AreWeights between → width between ≡ pos (size_of between)
natural_width between are = omega (arith, ints, are.low, are.high)

all_grains : (grain : Grain) (s l : ℕ) → most * l * s ≡ most_in grain * (s * l * attos_in grain)
all_grains Atto s l = grind arith
all_grains Femto s l = grind arith

some_parts : (grain : Grain) → 1 ≤ attos_in grain
some_parts Atto = omega arith
some_parts Femto = omega arith

-- between the points of both axes, or at their edges, a value is no larger than those of the table
pub within_time : (table : TimingTable) (grain : Grain) (on_slew on_load : Between) (rounded : ℤ) → AreWeights on_slew → AreWeights on_load → pos 1 ≤ℤ width on_slew → pos 1 ≤ℤ width on_load
    → unsigned_abs (weighed table on_slew on_load) ≤ most * size_of on_load * size_of on_slew
    → IsRounding (weighed table on_slew on_load) ((width on_slew *ℤ width on_load) *ℤ pos (attos_in grain)) rounded → unsigned_abs rounded ≤ most_in grain
within_time table grain on_slew on_load rounded a b some_slew some_load small rounds =
    let s = size_of on_slew in
    let l = size_of on_load in
    let ws = natural_width on_slew a in
    let wl = natural_width on_load b in
    let divisor : (width on_slew *ℤ width on_load) *ℤ pos (attos_in grain) ≡ pos (s * l * attos_in grain) =
    ap (λ w. (w *ℤ width on_load) *ℤ pos (attos_in grain)) ws ∙ ap (λ w. (pos s *ℤ w) *ℤ pos (attos_in grain)) wl in
    let some = area_some (width on_slew) (width on_load) (attos_in grain) some_slew some_load (some_parts grain) in
    rounding_small (weighed table on_slew on_load) rounded (s * l * attos_in grain) (most_in grain)
    (omega (arith, ints, some, divisor)) (subst (λ d. IsRounding (weighed table on_slew on_load) d rounded) divisor rounds) (omega (arith, small, all_grains grain s l))

-- a value that is too large is extended
pub past_time : (table : TimingTable) (slew load : ℕ) (grain : Grain) (beyond : Beyond) (on_slew on_load : Between) (rounded : ℤ) → IsTable table
    → IsBetween table.slew slew beyond on_slew → IsBetween table.load load beyond on_load
    → unsigned_abs (weighed table on_slew on_load) ≤ most * size_of on_load * size_of on_slew
    → IsRounding (weighed table on_slew on_load) ((width on_slew *ℤ width on_load) *ℤ pos (attos_in grain)) rounded
    → most_in grain < unsigned_abs (not_below beyond grain rounded) → IsLookupEnd table slew load grain beyond PastTime
past_time table slew load grain Extend on_slew on_load rounded whole a b small rounds large = far_value rounded (quotient on_slew on_load a b rounds) large
past_time table slew load grain Refuse on_slew on_load rounded whole a b small rounds large =
    absurd (omega (
      arith,
      large,
      within_time table grain on_slew on_load rounded
          (not_extended table.slew slew Refuse on_slew (λ same. cc) a) (not_extended table.load load Refuse on_load (λ same. cc) b)
          (some_width table.slew slew Refuse on_slew whole.slew a) (some_width table.load load Refuse on_load whole.load b) small rounds,
    ))
past_time table slew load grain Edge on_slew on_load rounded whole a b small rounds large =
    absurd (omega (
      arith,
      large,
      within_time table grain on_slew on_load rounded
          (not_extended table.slew slew Edge on_slew (λ same. cc) a) (not_extended table.load load Edge on_load (λ same. cc) b)
          (some_width table.slew slew Edge on_slew whole.slew a) (some_width table.load load Edge on_load whole.load b) small rounds,
    ))

-- the answer is a value, or an end
pub answers : (table : TimingTable) (slew load : ℕ) (grain : Grain) (beyond : Beyond) (kept : ℤ) (r : Result ℤ LookupEnd)
    → IfOk r (λ value. value ≡ kept) → IfOk r (λ value. unsigned_abs value ≤ most_in grain) → IfErr r (λ end. end ≡ PastTime) → OnErr r (most_in grain < unsigned_abs kept)
    → ((value : ℤ) → value ≡ kept → unsigned_abs value ≤ most_in grain → IsInterpolant table slew load grain beyond value)
    → (most_in grain < unsigned_abs kept → IsLookupEnd table slew load grain beyond PastTime)
    → IsLookup table slew load grain beyond r
answers table slew load grain beyond kept (Ok value) is small none nothing make_value make_end = make_value value is small
answers table slew load grain beyond kept (Err end) none nothing is large make_value make_end = subst (λ e. IsLookupEnd table slew load grain beyond e) (sym is) (make_end large)

-- no other answer is right
pub only_answer : (table : TimingTable) (slew load : ℕ) (grain : Grain) (beyond : Beyond) (r : Result ℤ LookupEnd) → IsTable table → IsLookup table slew load grain beyond r
    → (other : Result ℤ LookupEnd) → IsLookup table slew load grain beyond other → other ≡ r
only_answer table slew load grain beyond r whole is other its = one_lookup_lem one_rounding_lem table slew load grain beyond other r whole its is

-- a value that is not negative is not raised to 0
pub natural_stays : (beyond : Beyond) (grain : Grain) (value : ℤ) → pos 0 ≤ℤ value → not_below beyond grain value ≡ value
natural_stays Extend Atto (pos n) some = refl
natural_stays Extend Atto (negsuc n) some = absurd (omega (arith, ints, some))
natural_stays Extend Femto value some = refl
natural_stays Refuse Atto value some = refl
natural_stays Refuse Femto value some = refl
natural_stays Edge Atto value some = refl
natural_stays Edge Femto value some = refl
