-- The value of a table at a slew and a load (nonlinear delay model), or why it has none, as a function.
use Rattle.std.specs.Prelude.{◌≡◌, ◌↔◌, ℕ, ◌+◌, ◌-◌, min, max, Bool, ◌&&◌, ◌||◌, ◌==◌, nat_lt, nat_le, if◌then◌else◌, ℤ, pos, ◌+ℤ◌, ◌-ℤ◌, ◌*ℤ◌, ◌<ℤ◌, unsigned_abs, List, length, slice_index_or, Option, Some, None, Result, Ok, Err}
use Rattle.std.specs.Int.{int_div_euclid}
use Rattle.std.specs.List.{prefix_len}
use Rattle.delay_units.specs.Rounding.{IsRounding}
use Rattle.nldm_lookup.specs.Axes.{most}
use Rattle.nldm_lookup.specs.Betweens.{Between, width}
use Rattle.nldm_lookup.specs.Tables.{TimingTable, IsTable}
use Rattle.nldm_lookup.specs.Interpolant.{weighed, attos_in, most_in, not_below, IsLookup}
use Rattle.corner_set.specs.declared.choices.Beyond.{Beyond}
use Rattle.corner_set.specs.declared.choices.Beyond.TheVariants.{Refuse, Edge, Extend}
use Rattle.nldm_lookup.specs.declared.grain.Grain.{Grain}
use Rattle.nldm_lookup.specs.declared.faults.LookupEnd.{LookupEnd}
use Rattle.nldm_lookup.specs.declared.faults.LookupEnd.TheVariants.{Outside, PastTime}
use Rattle.nldm_lookup.specs.declared.faults.Which.TheVariants.{Slew, Load}

-- n / d rounded half up, which is n / d + 1/2 rounded down
abbrev pub half_up : ℤ → ℤ → ℤ
half_up n d = int_div_euclid ((n +ℤ n) +ℤ d) (d +ℤ d)

-- that is the rounding
abbrev pub HalfUp : Type 0
HalfUp = (n d : ℤ) → pos 0 <ℤ d → IsRounding n d (half_up n d)

-- the points of an axis by their places, from 0
abbrev pub point_at : List ℕ → ℕ → ℕ
point_at points place = slice_index_or points place 0

abbrev pub last_point : List ℕ → ℕ
last_point points = point_at points (length points - 1)

-- whether a quantity is past an end of two or more points
abbrev pub is_passed : List ℕ → ℕ → Bool
is_passed points quantity = nat_lt 1 (length points) && (nat_lt quantity (point_at points 0) || nat_lt (last_point points) quantity)

-- The place of the lower of the two points around a quantity: of the last point that is not above it, and of the last but one at most.
-- Below all points it is the first place.
abbrev pub place_around : List ℕ → ℕ → ℕ
place_around points quantity = min (prefix_len (λ point. nat_le point quantity) points - 1) (length points - 2)

-- where the two are weighed: at the quantity, or in `Edge` at the nearer end where one is passed
abbrev pub weighed_at : List ℕ → Beyond → ℕ → ℕ
weighed_at points Edge quantity = max (point_at points 0) (min quantity (last_point points))
weighed_at points _ quantity = quantity

-- two neighbouring points by their weights at a quantity
abbrev pub pair_at : List ℕ → ℕ → ℕ → Between
pair_at points place at = record {
  place = place;
  low = pos (point_at points (place + 1)) -ℤ pos at;
  high = pos at -ℤ pos (point_at points place);
}

-- What is taken for a quantity. A point that is alone has the whole weight.
abbrev pub between_on : List ℕ → ℕ → Beyond → Between
between_on points quantity beyond =
    if length points == 1 then record { place = 0; low = pos 1; high = pos 0 }
    else pair_at points (place_around points quantity) (weighed_at points beyond quantity)

-- the weighed values by the whole weight, rounded once to the grain
abbrev pub quotient_of : TimingTable → Grain → Between → Between → ℤ
quotient_of table grain slew load = half_up (weighed table slew load) ((width slew *ℤ width load) *ℤ pos (attos_in grain))

-- the value, however large it is
abbrev pub value_of : TimingTable → ℕ → ℕ → Grain → Beyond → ℤ
value_of table slew load grain beyond =
    not_below beyond grain (quotient_of table grain (between_on table.slew slew beyond) (between_on table.load load beyond))

-- Why an axis gives no value. `Refuse` asks the slew before the load. `Extend` goes no further than a load of a nanofarad.
abbrev pub axis_end : TimingTable → ℕ → ℕ → Beyond → Option LookupEnd
axis_end table slew load Refuse =
    if is_passed table.slew slew then Some (Outside (record { axis = Slew; value = slew }))
    else (if is_passed table.load load then Some (Outside (record { axis = Load; value = load })) else None)
axis_end table slew load Edge = None
axis_end table slew load Extend = if is_passed table.load load && nat_lt most load then Some PastTime else None

-- that end, or the value where it is a microsecond at most in size
abbrev pub answer_of : Option LookupEnd → Grain → ℤ → Result ℤ LookupEnd
answer_of (Some end) grain value = Err end
answer_of None grain value = if nat_le (unsigned_abs value) (most_in grain) then Ok value else Err PastTime

-- what a lookup answers
unfoldable pub lookup_of : TimingTable → ℕ → ℕ → Grain → Beyond → Result ℤ LookupEnd
lookup_of table slew load grain beyond = answer_of (axis_end table slew load beyond) grain (value_of table slew load grain beyond)

-- a lookup in a whole table answers that, and nothing else
abbrev pub LookupFunction : Type 0
LookupFunction = (table : TimingTable) (slew load : ℕ) (grain : Grain) (beyond : Beyond) (answer : Result ℤ LookupEnd) → IsTable table
    → IsLookup table slew load grain beyond answer ↔ (answer ≡ lookup_of table slew load grain beyond)
