-- Names of SPEF (IEEE 1481-1999): the text that a word stands for, its spelling in SDF, and where a node's name is cut.
use Rattle.std.specs.Prelude.{◌≡◌, ℕ, Bool, true, false, ◌==◌, List, [], ◌∷◌, ◌++◌, map, Option, Some, None, unwrap_or, if◌then◌else◌, ⊤}
use Rattle.std.specs.List.{flat_map}
use Rattle.name_table.specs.Characters.{Character, bare, escaped, characters}
use Rattle.name_table.specs.SdfNames.{spelled}
use Rattle.edge_io.specs.Bytes.{slash, left_bracket, right_bracket}
use Rattle.name_table.specs.declared.spef_names.SpefMarks.{SpefMarks}
use Rattle.name_table.specs.declared.spef_names.NodeName.{NodeName}

-- what a bare mark stands for; where marks are one byte the divider comes first, and then the left one
abbrev pub meaning : SpefMarks → ℕ → Option ℕ
meaning marks byte =
    if byte == marks.divider then Some slash
    else if byte == marks.left then Some left_bracket
    else if byte == marks.right then Some right_bracket
    else None

-- the byte that a character stands for
abbrev pub byte_of : SpefMarks → Character → ℕ
byte_of marks (escaped byte) = byte
byte_of marks (bare byte) = unwrap_or (meaning marks byte) byte

-- the spelling of a byte, or of the mark that it is
abbrev pub mark_or_spelled : Option ℕ → ℕ → List ℕ
mark_or_spelled None byte = spelled byte
mark_or_spelled (Some mark) byte = mark ∷ []

-- a character in SDF: the marks of paths and bits stand as they are, every other byte is spelled
abbrev pub sdf_of : SpefMarks → Character → List ℕ
sdf_of marks (escaped byte) = spelled byte
sdf_of marks (bare byte) = mark_or_spelled (meaning marks byte) byte

-- the text that characters stand for, and its spelling in SDF
abbrev pub text_of : SpefMarks → List Character → List ℕ
text_of marks name = map (byte_of marks) name

abbrev pub spelling_of : SpefMarks → List Character → List ℕ
spelling_of marks name = flat_map (sdf_of marks) name

-- an unescaped delimiter
abbrev pub is_delimiter : ℕ → Character → Bool
is_delimiter delimiter (bare byte) = byte == delimiter
is_delimiter delimiter (escaped byte) = false

-- no unescaped delimiter stands among the characters
abbrev pub HasNone : ℕ → List Character → Type 0
HasNone delimiter [] = ⊤
HasNone delimiter (first ∷ rest) = (is_delimiter delimiter first ≡ false) × HasNone delimiter rest

-- what stands before a character and after it
pub record Halves : Type 0 where
  pub front : List Character
  pub back : List Character

-- a name that begins with this character, where the rest has its last delimiter, or has none
abbrev pub cut_with : Bool → Character → List Character → Option Halves → Option Halves
cut_with here first rest (Some halves) = Some (record { front = first ∷ halves.front; back = halves.back })
cut_with true first rest None = Some (record { front = []; back = rest })
cut_with false first rest None = None

-- a name cut at its last unescaped delimiter
abbrev pub cut_last : ℕ → List Character → Option Halves
cut_last delimiter [] = None
cut_last delimiter (first ∷ rest) = cut_with (is_delimiter delimiter first) first rest (cut_last delimiter rest)

-- the node of a name that is a head alone
abbrev pub whole_node : SpefMarks → List Character → NodeName
whole_node marks name = record { head = text_of marks name; tail = None; sdf = spelling_of marks name }

-- the node of a name that is cut into head and tail
abbrev pub cut_node : SpefMarks → List Character → List Character → NodeName
cut_node marks front back = record {
  head = text_of marks front;
  tail = Some (text_of marks back);
  sdf = spelling_of marks front ++ slash ∷ spelling_of marks back;
}

abbrev pub node_of : SpefMarks → List Character → Option Halves → NodeName
node_of marks name None = whole_node marks name
node_of marks name (Some halves) = cut_node marks halves.front halves.back

-- where a name is cut, if it is to be
abbrev pub halves_at : ℕ → Bool → List Character → Option Halves
halves_at delimiter false name = None
halves_at delimiter true name = cut_last delimiter name

-- the node that a word names
abbrev pub node_name : SpefMarks → Bool → List ℕ → NodeName
node_name marks cut word = node_of marks (characters word) (halves_at marks.delimiter cut (characters word))

-- a node's head and tail with the delimiter between them, as the text that an uncut word stands for has them
abbrev pub joined : SpefMarks → List ℕ → Option (List ℕ) → List ℕ
joined marks head None = head
joined marks head (Some tail) = head ++ byte_of marks (bare marks.delimiter) ∷ tail
