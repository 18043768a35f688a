-- Which names SDF (IEEE 1497-2001) can say as they are spelled.
use Rattle.std.specs.Prelude.{◌≡◌, ◌≢◌, ℕ, Bool, false, ◌&&◌, ◌==◌, List, [], ◌∷◌}
use Rattle.name_table.specs.Characters.{Character}
use Rattle.edge_io.specs.Bytes.{slash, backslash}
use Rattle.name_table.specs.SdfNames.{canonical}
use Rattle.name_table.specs.SpefNames.{whole_node, cut_node, node_name}
use Rattle.name_table.specs.declared.spef_names.SpefMarks.{SpefMarks}

-- `//` begins a comment where no word goes on
abbrev pub begins_comment : List ℕ → Bool
begins_comment [] = false
begins_comment (first ∷ []) = false
begins_comment (first ∷ second ∷ rest) = first == slash && second == slash

-- A name that is its own canonical spelling, is not empty, and begins no comment. Other than a well spelled one it may have empty parts,
-- and brackets wherever they stand.
pub record IsSettled (name : List ℕ) : Type 0 where
  pub stays : canonical slash name ≡ name
  pub some : name ≢ []
  pub no_comment : begins_comment name ≡ false

-- The spelling of a node of SPEF is settled unless it begins a comment: of a name that is a head alone, of one that is cut into head and
-- tail, and of the node that a word names. No file has the words of which the last says nothing.
abbrev pub WholeSettles : Type 0
WholeSettles = (marks : SpefMarks) (name : List Character) → name ≢ [] → begins_comment (whole_node marks name).sdf ≡ false
    → IsSettled (whole_node marks name).sdf

abbrev pub HalvesSettle : Type 0
HalvesSettle = (marks : SpefMarks) (front back : List Character) → begins_comment (cut_node marks front back).sdf ≡ false
    → IsSettled (cut_node marks front back).sdf

abbrev pub NamedSettles : Type 0
NamedSettles =
    (marks : SpefMarks) (cut : Bool) (word : List ℕ) → word ≢ [] → word ≢ backslash ∷ []
    → begins_comment (node_name marks cut word).sdf ≡ false → IsSettled (node_name marks cut word).sdf
