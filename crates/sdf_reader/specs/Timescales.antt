-- The unit of a file's numbers, as its TIMESCALE names it (IEEE 1497-2001): a number and a unit, in one word or in two.
use Rattle.std.specs.Prelude.{ℕ, ◌+◌, List, [], ◌∷◌, ◌++◌, map, Option, Some, None, if◌then◌else◌, codes}
use Rattle.std.specs.List.{flat_map}
use Rattle.std.specs.Str.{bytes_eq}
use Rattle.sdf_reader.specs.declared.timescales.Count.{Count}
use Rattle.sdf_reader.specs.declared.timescales.Count.TheVariants.{One, Ten, Hundred}
use Rattle.sdf_reader.specs.declared.timescales.TimeUnit.{TimeUnit}
use Rattle.sdf_reader.specs.declared.timescales.TimeUnit.TheVariants.{Second, Millisecond, Microsecond, Nanosecond, Picosecond, Femtosecond}
use Rattle.sdf_reader.specs.declared.timescales.Timescale.{Timescale}

abbrev pub counts : List (List ℕ × Count)
counts =
    (codes "1", One) ∷ (codes "10", Ten) ∷ (codes "100", Hundred)
    ∷ (codes "1.0", One) ∷ (codes "10.0", Ten) ∷ (codes "100.0", Hundred) ∷ []

abbrev pub units : List (List ℕ × TimeUnit)
units =
    (codes "s", Second) ∷ (codes "ms", Millisecond) ∷ (codes "us", Microsecond)
    ∷ (codes "ns", Nanosecond) ∷ (codes "ps", Picosecond) ∷ (codes "fs", Femtosecond) ∷ []

-- each number with each unit
abbrev pub timescales : List (List ℕ × Timescale)
timescales = flat_map (λ (number : List ℕ × Count).
    map (λ (unit : List ℕ × TimeUnit). (number.0 ++ unit.0, record { count = number.1; unit = unit.1 })) units) counts

-- what stands in the table beside the bytes
abbrev pub scale_in : List (List ℕ × Timescale) → List ℕ → Option Timescale
scale_in [] bytes = None
scale_in (known ∷ later) bytes = if bytes_eq known.0 bytes then Some known.1 else scale_in later bytes

-- the timescale that the words name, joined
unfoldable pub timescale_of : List ℕ → Option Timescale
timescale_of bytes = scale_in timescales bytes

abbrev pub zeros : Count → ℕ
zeros One = 0
zeros Ten = 1
zeros Hundred = 2

abbrev pub unit_power : TimeUnit → ℕ
unit_power Second = 15
unit_power Millisecond = 12
unit_power Microsecond = 9
unit_power Nanosecond = 6
unit_power Picosecond = 3
unit_power Femtosecond = 0

-- it is ten to this power femtoseconds
abbrev pub power_of : Timescale → ℕ
power_of scale = zeros scale.count + unit_power scale.unit
