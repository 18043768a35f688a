-- The nodes of a section of a SPEF file (IEEE 1481): what a reference names, which nodes are one, and which belong to the section.
use Rattle.std.specs.Prelude.{◌≡◌, ℕ, Bool, true, false, ◌||◌, if◌then◌else◌, List, [], ◌∷◌, map, slice_get, Option, Some, None, option_map, option_to_list}
use Rattle.std.specs.List.{flat_map}
use Rattle.std.specs.Str.{bytes_eq}
use Rattle.name_table.specs.NodeKeys.{key_of, same_node, among, each_once}
use Rattle.name_table.specs.SpefNames.{node_name}
use Rattle.name_table.specs.declared.spef_names.NodeName.{NodeName}
use Rattle.spef_text.specs.Entries.{Section}
use Rattle.spef_text.specs.SpefFiles.{SpefText}
use Rattle.spef_text.specs.Heads.{text_of, digits_of}
use Rattle.spef_text.specs.References.{marks_of, is_starred, index_end, digits_in, mapped_node}
use Rattle.spef_text.specs.declared.entries.MapEntry.{MapEntry}

-- the name that the map has for an index with these digits
abbrev pub name_in : SpefText → List MapEntry → List ℕ → Option (List ℕ)
name_in file [] digits = None
name_in file (entry ∷ later) digits = if bytes_eq (digits_of file entry) digits then Some
    (text_of file entry.name) else name_in file later digits

-- the node of an index, if the map has it
abbrev pub indexed_node : SpefText → Bool → List ℕ → Option NodeName
indexed_node file cut word =
    option_map (λ name. mapped_node (marks_of file) cut name word (index_end file.reading.head.marks.delimiter word))
    (name_in file file.reading.head.map (digits_in file.reading.head.marks.delimiter word))

-- what a word names: nothing where its index is not in the map
unfoldable pub named : SpefText → Bool → List ℕ → Option NodeName
named file cut word = if is_starred word then indexed_node file cut word else Some (node_name (marks_of file) cut word)

-- the node that a token names, which is cut into head and tail
abbrev pub node_at : SpefText → ℕ → Option NodeName
node_at file token = named file true (text_of file token)

-- the net that a token names, whose name is not cut
abbrev pub net_at : SpefText → ℕ → Option (List ℕ)
net_at file token = option_map (λ node. node.head) (named file false (text_of file token))

-- the same head and the same tail are the same node, however they are written
abbrev pub is_among : NodeName → List NodeName → Bool
is_among node nodes = among (key_of node) (map key_of nodes)

-- each node once, at its first place
abbrev pub first_places : List NodeName → List NodeName
first_places nodes = each_once same_node nodes

-- no two nodes are one: different numbers have different heads, or different tails
abbrev pub AreDistinctNodes : List NodeName → Type 0
AreDistinctNodes nodes = (one other : ℕ) (a b : NodeName) → slice_get nodes one ≡ Some a → slice_get nodes other ≡ Some b
    → key_of a ≡ key_of b → one ≡ other

-- what tokens name; one whose index is not in the map names nothing
abbrev pub nodes_at : SpefText → List ℕ → List NodeName
nodes_at file tokens = flat_map (λ token. option_to_list (node_at file token)) tokens

-- the nodes of a section's connections, and of its resistors
abbrev pub listed_nodes : SpefText → Section → List NodeName
listed_nodes file section = nodes_at file (map (λ conn. conn.node) section.conns)

abbrev pub joined_nodes : SpefText → Section → List NodeName
joined_nodes file section = nodes_at file (flat_map (λ res. res.first ∷ res.second ∷ []) section.ress)

-- the node has the net's name as its head, with a tail or without
abbrev pub has_head : Option (List ℕ) → NodeName → Bool
has_head None node = false
has_head (Some net) node = bytes_eq net node.head

-- A node belongs to a section where it is listed as a connection, stands in a resistor, or has the net's name as its head.
unfoldable pub belongs : SpefText → Section → NodeName → Bool
belongs file section node =
    is_among node (listed_nodes file section) || (is_among node (joined_nodes file section) || has_head (net_at file section.net) node)
