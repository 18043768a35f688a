-- Readings as the points of an axis.
use Rattle.std.proofs.Common.{◌≡◌, ℕ, ◌<◌, ◌≤◌, zero, suc, true, false, List, [], ◌∷◌, length, map, get_or, ℤ, pos, ◌≤ℤ◌, Option, Some, None, Result, Ok, Err, unwrap_or, refl, sym, ap, subst, arith}
use Rattle.std.specs.Prelude.{All}
use Rattle.std.proofs.lemmas.Int.{ints}
use Rattle.std.proofs.lemmas.List.{get_or-map}
use Rattle.std.proofs.lemmas.List.Elements.{All-map, All-weaker}
use Rattle.delay_units.specs.declared.numbers.Unit.{Unit}
use Rattle.nldm_lookup.specs.Axes.{most, FallsAt, IsAxis, IsFaultless, IsAxisFault, empty, too_long, not_rising, no_memory}
use Rattle.nldm_lookup.specs.Tables.{IsSmall}
use Rattle.nldm_lookup.specs.declared.faults.AxisFault.{AxisFault}
use Rattle.liberty_tables.specs.Kept.{refusal_of, IsCopy, is_same, no_count, AreKept, all_within, one_past, IsListFault, unread_piece}
use Rattle.liberty_tables.specs.Kept as kept
use Rattle.liberty_tables.specs.NumberLists.{pieces_of}
use Rattle.liberty_tables.specs.Attributes.{values_of}
use Rattle.liberty_tables.specs.declared.library_units.LibraryUnits.{LibraryUnits}
use Rattle.liberty_tables.specs.declared.table_names.TableNames.{TableNames}
use Rattle.liberty_groups.specs.Groups.{Attribute}
use Rattle.nldm_lookup.specs.declared.faults.Which.{Which}
use Rattle.liberty_tables.specs.TableModel.{IsAxisOf, are_points, no_axis, no_axis_memory, AxisMeans, no_number, of_readings, no_index_memory, ValuesMean, are_values, no_value, past_bound, no_values_memory, PointsMean, of_variable, of_none, no_points_memory, unit_of, index_of}
use Rattle.liberty_tables.specs.declared.faults.CellFault.{CellFault}
use Rattle.liberty_tables.specs.declared.faults.CellFault.TheVariants.{BadNumber, BadAxis}

abbrev pub AreNotNegative : List ℤ → Type 0
AreNotNegative values = All (λ value. pos 0 ≤ℤ value) values

not_negative : (points : List ℕ) → AreNotNegative (map pos points)
not_negative points = All-map (λ value. pos 0 ≤ℤ value) pos points (λ k d below. omega (arith, ints))

length_points : (points : List ℕ) → length (map pos points) ≡ length points
length_points [] = refl
length_points (n ∷ points) = ap suc (length_points points)

-- readings of which one is below 0 are no axis
pub below_zero : (readings : List ℤ) → ¬ AreNotNegative readings → IsAxisOf readings (Err BadAxis)
below_zero readings negative = no_axis (λ points are axis. negative (subst AreNotNegative (sym are) (not_negative points)))

small_points : (points : List ℕ) → All (λ point. point ≤ most) points → All IsSmall (map pos points)
small_points points small = All-map IsSmall pos points (λ k d below. let fits = small k d below in omega (arith, ints, fits))

-- and so are readings of which one is past the bound
pub past_bounds : (readings : List ℤ) → ¬ All IsSmall readings → IsAxisOf readings (Err BadAxis)
past_bounds readings past = no_axis (λ points are axis. past (subst (All IsSmall) (sym are) (small_points points axis.small)))

-- the bound of the points
pub within_most : (readings : List ℤ) → All IsSmall readings → All (λ point. point ≤ℤ pos most) readings
within_most readings small = All-weaker IsSmall (λ point. point ≤ℤ pos most) (λ x fits. omega (arith, ints, fits)) readings small

small_back : (points : List ℕ) → All IsSmall (map pos points) → All (λ point. point ≤ most) points
small_back points small k d below =
    let fits = small k (pos d) (let l = length_points points in omega (arith, l, below)) in
    let value = get_or-map pos points k d (pos d) below in
    let is : IsSmall (pos (get_or points k d)) = subst IsSmall value fits in
    omega (arith, ints, is)

-- points without a fault are an axis
pub is_axis : (readings : List ℤ) (points : List ℕ) → map pos points ≡ readings → IsFaultless readings → All IsSmall readings → IsAxisOf readings (Ok points)
is_axis readings points same sound small = are_points points (sym same) record {
  some = let l = length_points points in let n = ap length same in let some = sound.some in omega (arith, l, n, some);
  few = let l = length_points points in let n = ap length same in let few = sound.few in omega (arith, l, n, few);
  rising = λ place falls. sound.rising place (subst (λ ps. FallsAt ps place) same falls);
  small = small_back points (subst (All IsSmall) (sym same) small);
}

-- points with a fault are none
pub is_no_axis : (readings : List ℤ) (fault : AxisFault) → IsAxisFault readings fault → IsAxisOf readings (Err (refusal_of fault))
is_no_axis readings _ (empty none) = no_axis (λ points are axis. let l = length_points points in let n = ap length are in let some = axis.some in absurd (omega (arith, l, n, some, none)))
is_no_axis readings _ (too_long many) = no_axis (λ points are axis. let l = length_points points in let n = ap length are in let few = axis.few in absurd (omega (arith, l, n, few, many)))
is_no_axis readings _ (not_rising place few falls first) = no_axis (λ points are axis. axis.rising place (subst (λ ps. FallsAt ps place) are falls))
is_no_axis readings _ no_memory = no_axis_memory

-- why there are no readings is why there is no axis, and why there are no values
pub no_readings : (unit : Unit) (pieces : List (List ℕ)) (fault : CellFault) → IsListFault pieces fault → AxisMeans unit pieces (Err fault)
no_readings unit pieces _ (unread_piece has) = no_number has
no_readings unit pieces _ kept.no_memory = no_index_memory

pub no_listed : (unit : Unit) (pieces : List (List ℕ)) (fault : CellFault) → IsListFault pieces fault → ValuesMean unit pieces (Err fault)
no_listed unit pieces _ (unread_piece has) = no_value has
no_listed unit pieces _ kept.no_memory = no_values_memory

-- where one reading is past the bound
pub past_axis : (unit : Unit) (pieces : List (List ℕ)) (values : List ℤ) → AreKept unit pieces false values → AxisMeans unit pieces (Err BadAxis)
past_axis unit pieces _ (one_past values readings are past) = of_readings readings (Err BadAxis) are (past_bounds readings past)

pub past_values : (unit : Unit) (pieces : List (List ℕ)) (values : List ℤ) → AreKept unit pieces false values → ValuesMean unit pieces (Err BadNumber)
past_values unit pieces _ (one_past values readings are past) = past_bound readings are past

-- where all are within it
pub kept_small : (unit : Unit) (pieces : List (List ℕ)) (values : List ℤ) → AreKept unit pieces true values → All IsSmall values
kept_small unit pieces _ (all_within values are small) = small

pub kept_axis : (unit : Unit) (pieces : List (List ℕ)) (values : List ℤ) (answer : Result (List ℕ) CellFault) → AreKept unit pieces true values → IsAxisOf values answer → AxisMeans unit pieces answer
kept_axis unit pieces _ answer (all_within values are small) axis = of_readings values answer are axis

pub kept_values : (unit : Unit) (pieces : List (List ℕ)) (values : List ℤ) → AreKept unit pieces true values → ValuesMean unit pieces (Ok values)
kept_values unit pieces _ (all_within values are small) = are_values values are small

-- the one point 0 is an axis
abbrev pub zero_points : List ℕ
zero_points = 0 ∷ []

no_fall : (place : ℕ) → ¬ FallsAt (map pos zero_points) place
no_fall zero falls = let next = falls.next in absurd (omega (arith, next))
no_fall (suc place) falls = let here = falls.here in absurd (cc)

zero_is_axis : IsAxis zero_points
zero_is_axis = record { some = omega arith; few = omega arith; rising = no_fall; small = λ k d below. small k d below }
  where
    small : (k d : ℕ) → k < length zero_points → get_or zero_points k d ≤ most
    small zero d below = omega arith
    small (suc k) d below = absurd (omega (arith, below))

zero_back : (points : List ℕ) → map pos zero_points ≡ map pos points → points ≡ zero_points
zero_back [] e = absurd (cc)
zero_back (zero ∷ []) e = refl
zero_back (suc n ∷ []) e = absurd (cc)
zero_back (n ∷ m ∷ points) e = absurd (cc)

-- where there is no variable
pub zero_axis : (called : TableNames) (units : LibraryUnits) (key : List ℕ) (table template : List Attribute) (answer : Result (List ℕ) CellFault) → IsAxisOf (map pos zero_points) answer → PointsMean called units key table template None answer
zero_axis called units key table template _ (are_points points are axis) = subst (λ ps. PointsMean called units key table template None (Ok ps)) (sym (zero_back points are)) of_none
zero_axis called units key table template _ (no_axis none) = absurd (none zero_points refl zero_is_axis)
zero_axis called units key table template _ no_axis_memory = no_points_memory None

-- the axis of a variable
pub variable_axis : (called : TableNames) (units : LibraryUnits) (key : List ℕ) (table template : List Attribute) (variable : Option Which) (which : Which) (unit : Unit) (texts : List (List ℕ)) (answer : Result (List ℕ) CellFault) → variable ≡ Some which → unit ≡ unit_of called units which
    → texts ≡ index_of key table template → AxisMeans unit (pieces_of texts) answer → PointsMean called units key table template variable answer
variable_axis called units key table template variable which unit texts answer some_is unit_is texts_are axis =
    subst (λ v. PointsMean called units key table template v answer) (sym some_is)
    (of_variable which answer (subst (λ u. AxisMeans u (pieces_of (index_of key table template)) answer) unit_is (subst (λ ts. AxisMeans unit (pieces_of ts) answer) texts_are axis)))

-- the axis that a template has, where the table has no index of its own
pub template_axis : (called : TableNames) (units : LibraryUnits) (key : List ℕ) (table template : List Attribute) (variable : Option Which) (answer copy : Result (List ℕ) CellFault) → values_of key table ≡ None
    → PointsMean called units key [] template variable answer → IsCopy answer copy → PointsMean called units key table template variable copy
template_axis called units key table template variable answer _ none points no_count = no_points_memory variable
template_axis called units key table template _ answer _ none (of_variable which _ axis) is_same =
    of_variable which answer (subst (λ texts. AxisMeans (unit_of called units which) (pieces_of texts) answer) (ap (λ values. unwrap_or values (unwrap_or (values_of key template) [])) (sym none)) axis)
template_axis called units key table template _ _ _ none of_none is_same = of_none
template_axis called units key table template _ _ _ none (no_points_memory _) is_same = no_points_memory _
