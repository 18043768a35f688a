-- The words of a TIMESCALE byte by byte, as the reader goes over them: the places between their bytes.
use Rattle.std.specs.Prelude.{ℕ, ◌==◌, List, [], ◌∷◌, Option, Some, None, if◌then◌else◌}
use Rattle.sdf_reader.specs.declared.timescales.Count.{Count}
use Rattle.sdf_reader.specs.declared.timescales.Count.TheVariants.{One, Ten, Hundred}
use Rattle.sdf_reader.specs.declared.timescales.TimeUnit.TheVariants as unit
use Rattle.sdf_reader.specs.declared.timescales.ScalePlace.{ScalePlace}
use Rattle.sdf_reader.specs.declared.timescales.ScalePlace.TheVariants.{Start, Whole, Point, Fraction, Letter, Done}

abbrev pub tenfold : Count → Option Count
tenfold One = Some Ten
tenfold Ten = Some Hundred
tenfold Hundred = None

-- behind a number: the first letter of a unit, or the only one
abbrev pub behind_number : Count → ℕ → Option ScalePlace
behind_number count byte =
    if byte == 115 then Some (Done (record { count = count; unit = unit.Second }))
    else (if byte == 109 then Some (Letter count unit.Millisecond)
    else (if byte == 117 then Some (Letter count unit.Microsecond)
    else (if byte == 110 then Some (Letter count unit.Nanosecond)
    else (if byte == 112 then Some (Letter count unit.Picosecond)
    else (if byte == 102 then Some (Letter count unit.Femtosecond)
    else None)))))

abbrev pub more_zeros : Option Count → Option ScalePlace
more_zeros None = None
more_zeros (Some count) = Some (Whole count)

-- behind digits: one more zero, a point, or a unit
abbrev pub behind_whole : Count → ℕ → Option ScalePlace
behind_whole count byte =
    if byte == 48 then more_zeros (tenfold count)
    else (if byte == 46 then Some (Point count)
    else behind_number count byte)

-- the place behind one more byte, where the words may go on with it
abbrev pub place_after : ScalePlace → ℕ → Option ScalePlace
place_after Start byte = if byte == 49 then Some (Whole One) else None
place_after (Whole count) byte = behind_whole count byte
place_after (Point count) byte = if byte == 48 then Some (Fraction count) else None
place_after (Fraction count) byte = behind_number count byte
place_after (Letter count unit) byte = if byte == 115 then Some (Done (record { count = count; unit = unit })) else None
place_after (Done scale) byte = None

-- the place behind a word, where the words may go on with it
abbrev pub place_on : Option ScalePlace → List ℕ → Option ScalePlace
place_on found [] = found
place_on None (byte ∷ bytes) = None
place_on (Some place) (byte ∷ bytes) = place_on (place_after place byte) bytes

abbrev pub place_behind : ScalePlace → List ℕ → Option ScalePlace
place_behind place bytes = place_on (Some place) bytes
