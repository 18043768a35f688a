-- What a reference of a SPEF file (IEEE 1481) names: the node or net of a name as it is written, or of the name that an index stands for.
use Rattle.std.specs.Prelude.{◌≡◌, ℕ, ◌+◌, ◌==◌, Bool, true, false, List, ◌++◌, take, drop, position, Contains, Option, Some, None, ⊤}
use Rattle.name_table.specs.Characters.{characters}
use Rattle.name_table.specs.SpefNames.{whole_node, cut_node, node_name}
use Rattle.name_table.specs.WrittenNames.{IsWritten}
use Rattle.name_table.specs.declared.spef_names.SpefMarks.{SpefMarks}
use Rattle.name_table.specs.declared.spef_names.NodeName.{NodeName}
use Rattle.name_table.specs.declared.written_names.WrittenName.{WrittenName}
use Rattle.edge_io.specs.Bytes.{begins_with}
use Rattle.spef_text.specs.Classes.{index_digits}
use Rattle.spef_text.specs.SpefFiles.{SpefText}
use Rattle.spef_text.specs.Heads.{HeadText, IsHeadOf, text_of, digits_of}
use Rattle.spef_text.specs.declared.entries.Marks.{Marks}
use Rattle.spef_text.specs.declared.entries.MapEntry.{MapEntry}
use Rattle.spef_text.specs.declared.references.ResolveEnd.{ResolveEnd}
use Rattle.spef_text.specs.declared.references.ResolveEnd.TheVariants.{UnknownIndex, OutOfMemory}

-- the marks, as names are read with them
abbrev pub spef_marks : Marks → SpefMarks
spef_marks marks = record { divider = marks.divider; delimiter = marks.delimiter; left = marks.left; right = marks.right }

abbrev pub marks_of : SpefText → SpefMarks
marks_of file = spef_marks file.reading.head.marks

-- the name map has this name for the index with these digits
pub record IsMapped (file : SpefText) (digits name : List ℕ) : Type 0 where
  pub entry : MapEntry
  pub stands : Contains file.reading.head.map entry
  pub index : digits_of file entry ≡ digits
  pub named : text_of file entry.name ≡ name

-- a star begins an index
abbrev pub is_starred : List ℕ → Bool
is_starred word = begins_with 42 word

-- an index goes to the first delimiter, or to the end
abbrev pub index_end : ℕ → List ℕ → Option ℕ
index_end delimiter word = position (λ byte. byte == delimiter) word

abbrev pub before : Option ℕ → List ℕ → List ℕ
before None word = word
before (Some place) word = take place word

-- the digits of the index that a word begins with, without leading zeros
abbrev pub digits_in : ℕ → List ℕ → List ℕ
digits_in delimiter word = index_digits (before (index_end delimiter word) word)

-- The node of a word whose index stands for the name. The name is never cut: alone it is a head alone, and with a tail the head. Where the
-- word is not to be cut, the name, the delimiter and the tail are one head.
abbrev pub mapped_node : SpefMarks → Bool → List ℕ → List ℕ → Option ℕ → NodeName
mapped_node marks cut name word None = whole_node marks (characters name)
mapped_node marks true name word (Some place) = cut_node marks (characters name) (characters (drop (place + 1) word))
mapped_node marks false name word (Some place) = whole_node marks (characters (name ++ drop place word))

-- the word names the node
pub data IsNodeOf (file : SpefText) (cut : Bool) (word : List ℕ) (node : NodeName) : Type 0 where
  plain : is_starred word ≡ false → node ≡ node_name (marks_of file) cut word → IsNodeOf file cut word node
  mapped : (name : List ℕ) → is_starred word ≡ true
      → IsMapped file (digits_in file.reading.head.marks.delimiter word) name
      → node ≡ mapped_node (marks_of file) cut name word (index_end file.reading.head.marks.delimiter word)
      → IsNodeOf file cut word node

-- the word names a node whose head and tail stand in the file as they are written
pub record NamesAsWritten (file : SpefText) (cut : Bool) (word : List ℕ) (name : WrittenName) : Type 0 where
  pub node : NodeName
  pub names : IsNodeOf file cut word node
  pub written : IsWritten node name

-- the word begins with an index that the map does not have
pub record IsUnknown (file : SpefText) (word : List ℕ) : Type 0 where
  pub starred : is_starred word ≡ true
  pub unmapped : (name : List ℕ) → IsMapped file (digits_in file.reading.head.marks.delimiter word) name → ⊥

-- why a token names nothing
abbrev pub IsResolveEnd : SpefText → ℕ → ResolveEnd → Type 0
IsResolveEnd file token (UnknownIndex at) = (at ≡ token) × IsUnknown file (text_of file token)
IsResolveEnd file token OutOfMemory = ⊤

-- a file and its head, with an index of the map and the name that it stands for, if one is kept
pub record KeepsNames (file : SpefText) (head : HeadText) (index : List ℕ) (name : Option (List ℕ)) : Type 0 where
  pub head_of_file : IsHeadOf file head
  pub mapped : (kept : List ℕ) → name ≡ Some kept → IsMapped file (index_digits index) kept
