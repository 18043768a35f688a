-- The references of a section as they are kept while it is read: spellings, the place of the node of each, and what is known of each node.
use Rattle.std.specs.Prelude.{◌≡◌, ℕ, ◌<◌, Bool, true, false, ◌||◌, List, [], ◌∷◌, ◌++◌, length, map, slice_get, slice_set, All, Option, Some, None, option_to_list}
use Rattle.std.specs.List.{flat_map}
use Rattle.std.specs.Str.{bytes_eq}
use Rattle.name_table.specs.declared.spef_names.NodeName.{NodeName}
use Rattle.spef_text.specs.SpefFiles.{SpefText}
use Rattle.spef_text.specs.Heads.{text_of}
use Rattle.spef_text.specs.declared.entries.Conn.{Conn}
use Rattle.spef_text.specs.declared.entries.Res.{Res}
use Rattle.name_table.specs.NodeKeys.{Key, key_of, among}
use Rattle.spef_nets.specs.Nodes.{named, nodes_at}
use Rattle.spef_nets.specs.declared.marks.Mark.{Mark}

-- a table of nodes after one was looked for in it: it stays where it has the node, and else gets it as its last
pub data IsInterned (old new : List Key) (key : Key) (place : ℕ) : Type 0 where
  held : new ≡ old → slice_get old place ≡ Some key → IsInterned old new key place
  added : new ≡ old ++ key ∷ [] → place ≡ length old → among key old ≡ false → IsInterned old new key place

pub record Refs : Type 0 where
  pub file : SpefText
  pub words : List (List ℕ)
  -- of each word the place of its node, and the node's name
  pub places : List ℕ
  pub names : List (Option NodeName)
  pub keys : List Key
  pub marks : List Mark
  -- the nodes with a number
  pub nodes : List NodeName

abbrev pub no_refs : SpefText → Refs
no_refs file = record { file = file; words = []; places = []; names = []; keys = []; marks = []; nodes = [] }

abbrev pub ArePlaced : Refs → Type 0
ArePlaced refs = All (λ place. place < length refs.marks) refs.places

-- the mark of a node that was put first
abbrev pub new_mark : List ℕ → NodeName → Mark
new_mark net node = record { listed = false; belongs = bytes_eq net node.head; number = None }

abbrev pub with_word : Refs → List ℕ → ℕ → NodeName → List Key → List Mark → Refs
with_word refs word place node keys marks = record {
  file = refs.file;
  words = refs.words ++ word ∷ [];
  places = refs.places ++ place ∷ [];
  names = refs.names ++ Some node ∷ [];
  keys = keys;
  marks = marks;
  nodes = refs.nodes;
}

-- a word was put at the end, which names the node
pub data IsPut (net : List ℕ) (old new : Refs) (word : List ℕ) (node : NodeName) : Type 0 where
  held : (place : ℕ) → slice_get old.keys place ≡ Some (key_of node) → new ≡ with_word old word place node old.keys old.marks
      → IsPut net old new word node
  added : among (key_of node) old.keys ≡ false
      → new ≡ with_word old word (length old.keys) node (old.keys ++ key_of node ∷ []) (old.marks ++ new_mark net node ∷ [])
      → IsPut net old new word node

-- A word that names the node was looked up: it has this number, or was put at the end.
pub data IsFound (net : List ℕ) (old new : Refs) (word : List ℕ) (node : NodeName) (number : ℕ) : Type 0 where
  stands : slice_get old.words number ≡ Some word → new ≡ old → IsFound net old new word node number
  newest : number ≡ length old.words → IsPut net old new word node → IsFound net old new word node number

-- the node of a word has this place and this mark
pub record IsMarked (refs : Refs) (word place : ℕ) (mark : Mark) : Type 0 where
  pub placed : slice_get refs.places word ≡ Some place
  pub marked : slice_get refs.marks place ≡ Some mark

abbrev pub with_mark : Refs → ℕ → Mark → Refs
with_mark refs place mark = record {
  file = refs.file;
  words = refs.words;
  places = refs.places;
  names = refs.names;
  keys = refs.keys;
  marks = slice_set refs.marks place mark;
  nodes = refs.nodes;
}

abbrev pub listed_mark : Mark → Mark
listed_mark mark = record { listed = true; belongs = true; number = mark.number }

abbrev pub joined_mark : Mark → Mark
joined_mark mark = record { listed = mark.listed; belongs = true; number = mark.number }

abbrev pub numbered_mark : Mark → ℕ → Mark
numbered_mark mark number = record { listed = mark.listed; belongs = mark.belongs; number = Some number }

pub record Belongs (refs : Refs) (word : ℕ) (answer : Bool) : Type 0 where
  pub place : ℕ
  pub mark : Mark
  pub marked : IsMarked refs word place mark
  pub is : answer ≡ mark.belongs

pub record Joins (old new : Refs) (word : ℕ) : Type 0 where
  pub place : ℕ
  pub mark : Mark
  pub marked : IsMarked old word place mark
  pub is : new ≡ with_mark old place (joined_mark mark)

pub record Lists (old new : Refs) (word : ℕ) (was : Bool) : Type 0 where
  pub place : ℕ
  pub mark : Mark
  pub marked : IsMarked old word place mark
  pub listed : was ≡ mark.listed
  pub is : new ≡ with_mark old place (listed_mark mark)

abbrev pub with_number : Refs → ℕ → ℕ → Mark → Option NodeName → Refs
with_number refs word place mark name = record {
  file = refs.file;
  words = refs.words;
  places = refs.places;
  names = refs.names;
  keys = refs.keys;
  marks = slice_set refs.marks place (numbered_mark mark (length refs.nodes));
  nodes = refs.nodes ++ option_to_list name;
}

-- the node of a word has a number, or got one
pub data Numbers (old new : Refs) (word number : ℕ) : Type 0 where
  held : (place : ℕ) (mark : Mark) → IsMarked old word place mark → mark.number ≡ Some number → new ≡ old → Numbers old new word number
  fresh : (place : ℕ) (mark : Mark) (name : Option NodeName) → IsMarked old word place mark → mark.number ≡ None
      → slice_get old.names word ≡ Some name
      → number ≡ length old.nodes → new ≡ with_number old word place mark name → Numbers old new word number

-- a word's name is known
abbrev pub IsNamed : Refs → ℕ → Type 0
IsNamed refs word = (node : NodeName) × (slice_get refs.names word ≡ Some (Some node))

-- a word names a node of the file
pub record IsSpelled (file : SpefText) (refs : Refs) (number : ℕ) (word : List ℕ) : Type 0 where
  pub node : NodeName
  pub names : named file true word ≡ Some node
  pub place : ℕ
  pub placed : slice_get refs.places number ≡ Some place
  pub key : slice_get refs.keys place ≡ Some (key_of node)
  pub kept : slice_get refs.names number ≡ Some (Some node)

-- a node's mark says whether it is listed, whether it belongs to the net's section, and its number
pub record IsMark (net : List ℕ) (listed joined : List Key) (nodes : List NodeName) (key : Key) (mark : Mark) : Type 0 where
  pub is_listed : mark.listed ≡ among key listed
  pub does_belong : mark.belongs ≡ (among key listed || (among key joined || bytes_eq net key.head))
  pub numbered : (number : ℕ) → mark.number ≡ Some number → slice_get (map key_of nodes) number ≡ Some key
  pub unnumbered : mark.number ≡ None → among key (map key_of nodes) ≡ false

-- the references of a section of which these nodes have been listed as connections, and these stand in resistors
pub record AreRefs (file : SpefText) (net : List ℕ) (listed joined : List Key) (refs : Refs) : Type 0 where
  pub of_file : refs.file ≡ file
  pub words_placed : length refs.places ≡ length refs.words
  pub words_named : length refs.names ≡ length refs.words
  pub keys_marked : length refs.marks ≡ length refs.keys
  pub placed : ArePlaced refs
  pub spelled : (number : ℕ) (word : List ℕ) → slice_get refs.words number ≡ Some word → IsSpelled file refs number word
  pub marked : (place : ℕ) (key : Key) (mark : Mark) → slice_get refs.keys place ≡ Some key → slice_get refs.marks place ≡ Some mark
      → IsMark net listed joined refs.nodes key mark
  pub once : (one other : ℕ) (key : Key) → slice_get refs.keys one ≡ Some key → slice_get refs.keys other ≡ Some key → one ≡ other
  pub covered : (key : Key) → (among key listed || (among key joined || among key (map key_of refs.nodes))) ≡ true
      → among key refs.keys ≡ true

-- a token's reference as it was looked up: its word's number, or nothing where its index is not in the map
abbrev pub IsRef : SpefText → List (List ℕ) → ℕ → Option ℕ → Type 0
IsRef file words token None = named file true (text_of file token) ≡ None
IsRef file words token (Some number) = slice_get words number ≡ Some (text_of file token)

-- the words at tokens
abbrev pub words_at : SpefText → List ℕ → List (List ℕ)
words_at file tokens = map (text_of file) tokens

-- more words were put behind those that stood
abbrev pub Grows : List (List ℕ) → List (List ℕ) → Type 0
Grows old new = (more : List (List ℕ)) × (new ≡ old ++ more)

abbrev pub keys_at : SpefText → List ℕ → List Key
keys_at file tokens = map key_of (nodes_at file tokens)

abbrev pub conn_keys : SpefText → List Conn → List Key
conn_keys file conns = keys_at file (map (λ conn. conn.node) conns)

abbrev pub res_keys : SpefText → List Res → List Key
res_keys file ress = keys_at file (flat_map (λ res. res.first ∷ res.second ∷ []) ress)
