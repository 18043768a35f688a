-- Which nodes of SPEF (IEEE 1481-1999) are well spelled in SDF: those whose names are one part or more, none of them empty, with bits that
-- stand behind a letter.
use Rattle.std.specs.Prelude.{◌≡◌, ℕ, true, List, [], ◌∷◌, ◌++◌, map, Option, Some, None}
use Rattle.std.specs.Char.{is_ascii_digit}
use Rattle.std.specs.List.{list_all}
use Rattle.name_table.specs.Characters.{Character, bare, escaped}
use Rattle.edge_io.specs.Bytes.{slash, left_bracket, right_bracket}
use Rattle.name_table.specs.SpefNames.{meaning, whole_node, cut_node}
use Rattle.name_table.specs.WellSpelled.{IsWellSpelled}
use Rattle.name_table.specs.declared.spef_names.SpefMarks.{SpefMarks}

-- what a character is: a byte of the name, or a mark that parts the name or stands round the number of a bit
pub data Symbol : Type 0 where
  letter : ℕ → Symbol
  mark : ℕ → Symbol

abbrev pub mark_or_letter : Option ℕ → ℕ → Symbol
mark_or_letter None byte = letter byte
mark_or_letter (Some is) byte = mark is

abbrev pub symbol_of : SpefMarks → Character → Symbol
symbol_of marks (escaped byte) = letter byte
symbol_of marks (bare byte) = mark_or_letter (meaning marks byte) byte

abbrev pub symbols_of : SpefMarks → List Character → List Symbol
symbols_of marks name = map (symbol_of marks) name

-- a letter alone or with a bit behind it
pub data IsPieceOf : List Symbol → Type 0 where
  alone : (byte : ℕ) → IsPieceOf (letter byte ∷ [])
  with_bit : (byte first : ℕ) (digits : List ℕ)
      → list_all is_ascii_digit (first ∷ digits) ≡ true
      → IsPieceOf (letter byte ∷ mark left_bracket ∷ (map letter (first ∷ digits) ++ mark right_bracket ∷ []))

-- one piece or more
pub data IsPartOf : List Symbol → Type 0 where
  piece : {last : List Symbol} → IsPieceOf last → IsPartOf last
  pieces : {first rest : List Symbol} → IsPieceOf first → IsPartOf rest → IsPartOf (first ++ rest)

-- one part or more, with the divider between them
pub data IsPath : List Symbol → Type 0 where
  one_part : {part : List Symbol} → IsPartOf part → IsPath part
  parts : {part rest : List Symbol} → IsPartOf part → IsPath rest → IsPath (part ++ mark slash ∷ rest)

-- a name that is a head alone is well spelled exactly where it is such a path
abbrev pub WholeWellSpelled : Type 0
WholeWellSpelled =
    (marks : SpefMarks) (name : List Character) → (IsPath (symbols_of marks name) → IsWellSpelled (whole_node marks name).sdf)
    × (IsWellSpelled (whole_node marks name).sdf → IsPath (symbols_of marks name))

-- and one that is cut into head and tail where these with the divider between them are one
abbrev pub HalvesWellSpelled : Type 0
HalvesWellSpelled =
    (marks : SpefMarks) (front back : List Character)
    → (IsPath (symbols_of marks front ++ mark slash ∷ symbols_of marks back) → IsWellSpelled (cut_node marks front back).sdf)
    × (IsWellSpelled (cut_node marks front back).sdf → IsPath (symbols_of marks front ++ mark slash ∷ symbols_of marks back))
