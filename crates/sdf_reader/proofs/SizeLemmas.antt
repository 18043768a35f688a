-- The values of an entry are within the bound, and a token adds at most one row.
use Rattle.std.proofs.Common.{◌≡◌, ℕ, ◌+◌, ◌≤◌, List, ◌++◌, length, length-append, Option, Some, None, Result, Ok, Err, IfOk, refl, arith, subst}
use Rattle.delay_units.specs.declared.quantities.Femto.{Femto}
use Rattle.sdf_reader.specs.Numbers.{IsMember, member, IsValue, single, triple}
use Rattle.sdf_reader.specs.Timescales.{power_of}
use Rattle.sdf_reader.specs.Rows.{no_value, row_in, rows_in}
use Rattle.sdf_reader.specs.Modes.{State, Entry, with_value, kept, numbered_by, rows_behind, applied, Decides}
use Rattle.token_texts.specs.Readings.{OnTaken}
use Rattle.sdf_reader.specs.ReaderStates.{Steps}
use Rattle.sdf_reader.specs.Sizes.{IsTimeWithin, IsValueWithin, IsRowWithin}
use Rattle.sdf_reader.specs.declared.modes.Action.{Action}
use Rattle.sdf_reader.specs.declared.modes.Action.TheVariants.{Nothing, Divide, Rescale, SetType, Instance, NoInstance, Begin, From, To, Empty, Number, Row}
use Rattle.sdf_reader.specs.declared.modes.Shape.{Shape}
use Rattle.sdf_reader.specs.declared.modes.Shape.TheVariants as shape
use Rattle.sdf_reader.specs.declared.reader.Taken.TheVariants as taken
use Rattle.sdf_reader.specs.declared.rows.Value.{Value}
use Rattle.sdf_reader.specs.declared.rows.SdfRow.{SdfRow}
use Rattle.sdf_reader.specs.declared.timescales.Timescale.{Timescale}
use Rattle.sdf_reader.specs.declared.ends.SdfCause.{SdfCause}
use Rattle.sdf_reader.proofs.Clashes.{never, same_ok}

-- ---- values

member_within : (power : ℕ) (text : List ℕ) (m : Option Femto) → IsMember power text m → IsTimeWithin m
member_within power text None is = tt
member_within power text (Some time) (member is) = is.within

-- what a word says is within the bound
pub value_within : (scale : Timescale) (word : List ℕ) (value : Value) → IsValue scale word value → IsValueWithin value
value_within scale word value (single is) = (is.within, is.within, is.within)
value_within scale word value (triple {least = l} {typical = t} {largest = m} are) =
    let p : ℕ = power_of scale in
    (member_within p l value.min are.min, member_within p t value.typ are.typ, member_within p m value.max are.max)

none_within : IsValueWithin no_value
none_within = (tt, tt, tt)

pub row_in_within : (s : Shape) (cell instance from to : List ℕ) (rise fall : Value) → IsValueWithin rise → IsValueWithin fall → IsRowWithin (row_in s cell instance from to rise fall)
row_in_within shape.Path cell instance from to rise fall one other = (one, other)
row_in_within shape.Wire cell instance from to rise fall one other = (one, other)

-- ---- states

-- the values of an entry are within the bound, and there are at most so many rows
record Fits (most : ℕ) (s : State) : Type 0 where
  rise : IsValueWithin s.entry.rise
  fall : IsValueWithin s.entry.fall
  rows : length s.rows ≤ most

record EntryFits (entry : Entry) : Type 0 where
  rise : IsValueWithin entry.rise
  fall : IsValueWithin entry.fall

kept_fits : (value : Value) (entry : Entry) → IsValueWithin value → EntryFits entry → EntryFits (with_value value entry)
kept_fits value entry within fits = by entry.taken
  where
    by : (t : _) → EntryFits (kept t value entry)
    by taken.None = record { rise = within; fall = within }
    by taken.One = record { rise = fits.rise; fall = within }
    by taken.More = fits

one_row : (s : Shape) (cell : List ℕ) (instance : Option (List ℕ)) (from to : List ℕ) (rise fall : Value) → length (rows_in s cell instance from to rise fall) ≤ 1
one_row s cell None from to rise fall = omega arith
one_row s cell (Some instance) from to rise fall = omega arith

rows_grow : (shape : Shape) (s : State) → length (rows_behind shape s) ≤ length s.rows + 1
rows_grow shape s =
    let more : List SdfRow = rows_in shape s.cell s.instance s.entry.from s.entry.to s.entry.rise s.entry.fall in
    let size : length (s.rows ++ more) ≡ length s.rows + length more = length-append s.rows more in
    let one : length more ≤ 1 = one_row shape s.cell s.instance s.entry.from s.entry.to s.entry.rise s.entry.fall in
    omega (arith, size, one)

abbrev led : State → Result State SdfCause
led s = Ok s

leads : (most : ℕ) (s after : State) → Fits most s → led s ≡ led after → Fits most after
leads most s after fits e = subst (Fits most) (same_ok e) fits

applied_fits : (number : Timescale → List ℕ → Option Value) → Decides IsValue number → (action : Action) (s after : State) (bytes : List ℕ) → IsValueWithin s.entry.rise → IsValueWithin s.entry.fall → applied number action s bytes ≡ Ok after → Fits (length s.rows + 1) after
applied_fits number decides action s after bytes rise fall e = by action e
  where
    entry_with : (value : Value) → IsValueWithin value → EntryFits (with_value value s.entry)
    entry_with value within = kept_fits value s.entry within (record { rise = rise; fall = fall })

    by_number : (found : Option Value) → number s.scale bytes ≡ found → numbered_by found s ≡ Ok after → Fits (length s.rows + 1) after
    by_number None f e = never e
    by_number (Some value) f e =
        let fits = entry_with value (value_within s.scale bytes value (decides.means s.scale bytes value f)) in
        leads (length s.rows + 1) _ after (record { rise = fits.rise; fall = fits.fall; rows = omega arith }) e

    by : (action : Action) → applied number action s bytes ≡ Ok after → Fits (length s.rows + 1) after
    by Nothing e = leads (length s.rows + 1) _ after (record { rise = rise; fall = fall; rows = omega arith }) e
    by (Divide byte) e = leads (length s.rows + 1) _ after (record { rise = rise; fall = fall; rows = omega arith }) e
    by (Rescale scale) e = leads (length s.rows + 1) _ after (record { rise = rise; fall = fall; rows = omega arith }) e
    by SetType e = leads (length s.rows + 1) _ after (record { rise = rise; fall = fall; rows = omega arith }) e
    by Instance e = leads (length s.rows + 1) _ after (record { rise = rise; fall = fall; rows = omega arith }) e
    by NoInstance e = leads (length s.rows + 1) _ after (record { rise = rise; fall = fall; rows = omega arith }) e
    by Begin e = leads (length s.rows + 1) _ after (record { rise = none_within; fall = none_within; rows = omega arith }) e
    by From e = leads (length s.rows + 1) _ after (record { rise = rise; fall = fall; rows = omega arith }) e
    by To e = leads (length s.rows + 1) _ after (record { rise = rise; fall = fall; rows = omega arith }) e
    by Empty e =
        let fits = entry_with no_value none_within in
        leads (length s.rows + 1) _ after (record { rise = fits.rise; fall = fits.fall; rows = omega arith }) e
    by Number e = by_number (number s.scale bytes) refl e
    by (Row shape) e = leads (length s.rows + 1) _ after (record { rise = rise; fall = fall; rows = rows_grow shape s }) e

-- what is known behind a token that was taken
pub taken_fits : {E : Type 0} (number : Timescale → List ℕ → Option Value) → Decides IsValue number → (action : Action) (s after : State) (bytes : List ℕ) (result : Result (Option SdfCause) E) → IsValueWithin s.entry.rise → IsValueWithin s.entry.fall
    → IfOk result (Steps (applied number action s bytes) after) → OnTaken result (IsValueWithin after.entry.rise) × OnTaken result (IsValueWithin after.entry.fall) × OnTaken result (length after.rows ≤ length s.rows + 1)
taken_fits number decides action s after bytes (Ok None) rise fall steps = let fits = applied_fits number decides action s after bytes rise fall steps in (fits.rise, fits.fall, fits.rows)
taken_fits number decides action s after bytes (Ok (Some cause)) rise fall steps = (tt, tt, tt)
taken_fits number decides action s after bytes (Err end) rise fall steps = (tt, tt, tt)
