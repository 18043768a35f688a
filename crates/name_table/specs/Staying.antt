-- The bytes of a name that stand as they are, in the text that it stands for and in its spelling in SDF.
use Rattle.std.specs.Prelude.{ℕ, Bool, not, ◌==◌, ◌&&◌, Option, Some, None}
use Rattle.edge_io.specs.Bytes.{backslash}
use Rattle.name_table.specs.SdfNames.{is_plain}
use Rattle.name_table.specs.SpefNames.{meaning}
use Rattle.name_table.specs.declared.spef_names.SpefMarks.{SpefMarks}

-- a byte that is no mark is spelled as it is where it is plain, and a mark where it stands for itself
abbrev pub stays_as : Option ℕ → ℕ → Bool
stays_as None byte = is_plain byte
stays_as (Some mark) byte = mark == byte

abbrev pub stays : SpefMarks → ℕ → Bool
stays marks byte = not (byte == backslash) && stays_as (meaning marks byte) byte

-- no mark is a plain byte
abbrev pub are_usual : SpefMarks → Bool
are_usual marks = not (is_plain marks.divider) && (not (is_plain marks.left) && not (is_plain marks.right))
