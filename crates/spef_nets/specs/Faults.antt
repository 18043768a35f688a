-- Why the sections of a SPEF file (IEEE 1481) are refused: the first fault in the order of the file, and what is not examined.
use Rattle.std.specs.Prelude.{◌≡◌, ℕ, ◌<◌, ◌≤◌, ◌⊎◌, Bool, false, if◌then◌else◌, List, [], ◌∷◌, ◌++◌, take, map, slice_get, All, Contains, Option, Some, None, option_to_list, ⊤}
use Rattle.std.specs.List.{flat_map}
use Rattle.delay_units.specs.declared.numbers.Unit.{Unit}
use Rattle.name_table.specs.declared.spef_names.NodeName.{NodeName}
use Rattle.spef_text.specs.Entries.{Section}
use Rattle.spef_text.specs.SpefFiles.{SpefText}
use Rattle.spef_text.specs.Heads.{HeadText, text_of}
use Rattle.spef_text.specs.declared.entries.Conn.{Conn}
use Rattle.spef_text.specs.declared.entries.Cap.{Cap}
use Rattle.spef_text.specs.declared.entries.Res.{Res}
use Rattle.spef_nets.specs.Values.{IsValueFault}
use Rattle.spef_nets.specs.Nodes.{node_at, nodes_at, net_at, is_among}
use Rattle.spef_nets.specs.Elements.{places_of}
use Rattle.delay_units.specs.Bounds.{most_farads, most_ohms}
use Rattle.spef_nets.specs.declared.amounts.AmountFault.TheVariants.{BadNumber as Bad, ValueTooLarge as Large}
use Rattle.spef_nets.specs.declared.ends.SectionEnd.{SectionEnd}
use Rattle.spef_nets.specs.declared.ends.SectionEnd.TheVariants.{UnknownIndex, BadNumber, ValueTooLarge, RepeatedNet, ForeignCoupling, OutOfMemory}

-- What is examined: that a reference is known, that a net's name is new, that a coupling has a node which belongs, that a value is good.
pub data Point : Type 0 where
  reference : ℕ → Point
  naming : ℕ → Point
  coupling : Cap → Point
  amount : Unit → ℕ → ℕ → Point

abbrev pub is_known_among : List NodeName → Option NodeName → Bool
is_known_among nodes None = false
is_known_among nodes (Some node) = is_among node nodes

-- the node of a connection stands in one before it
abbrev pub is_later : SpefText → List Conn → Conn → Bool
is_later file before conn = is_known_among (nodes_at file (map (λ earlier. earlier.node) before)) (node_at file conn.node)

-- of several connections with one node the first alone has a load
abbrev pub load_points : SpefText → HeadText → List Conn → Conn → List Point
load_points file head before conn = if is_later file before conn then [] else map (amount head.cap_unit most_farads)
    (option_to_list conn.load)

abbrev pub conn_points : SpefText → HeadText → List Conn → List Conn → List Point
conn_points file head before [] = []
conn_points file head before (conn ∷ later) = reference conn.node
    ∷ (load_points file head before conn ++ conn_points file head (before ++ conn ∷ []) later)

abbrev pub cap_points : HeadText → Cap → List Point
cap_points head cap = reference cap.first ∷ coupling cap
    ∷ (map reference (option_to_list cap.second) ++ amount head.cap_unit most_farads cap.value ∷ [])

abbrev pub res_points : HeadText → Res → List Point
res_points head res = reference res.first ∷ reference res.second ∷ amount head.res_unit most_ohms res.value ∷ []

-- the points of a section in the order of their tokens, at one token in the order of their faults
abbrev pub points_of : SpefText → HeadText → Section → List Point
points_of file head section =
    reference section.net ∷ naming section.net
    ∷ (conn_points file head [] section.conns ++ flat_map (cap_points head) section.caps ++ flat_map (res_points head) section.ress)

-- an index that is not in the map
abbrev pub IsUnknownAt : SpefText → ℕ → SectionEnd → Type 0
IsUnknownAt file token (UnknownIndex at) = (at ≡ token) × (node_at file token ≡ None)
IsUnknownAt file token _ = ⊥

-- the names of the nets of the sections in front of a place
abbrev pub nets_before : SpefText → ℕ → List (Option (List ℕ))
nets_before file place = map (λ section. net_at file section.net) (take place file.reading.sections)

-- a net that has a section already
abbrev pub IsRepeatedAt : SpefText → ℕ → ℕ → SectionEnd → Type 0
IsRepeatedAt file place token (RepeatedNet net at) = (at ≡ token) × (net_at file token ≡ Some net)
    × Contains (nets_before file place) (Some net)
IsRepeatedAt file place token _ = ⊥

-- a coupling has two nodes, and is foreign where neither belongs to the section
abbrev pub IsForeign : SpefText → Section → Cap → Type 0
IsForeign file section cap = (second : ℕ) × (cap.second ≡ Some second) × (places_of file section cap.first (Some second) ≡ [])

abbrev pub IsForeignAt : SpefText → Section → Cap → SectionEnd → Type 0
IsForeignAt file section cap (ForeignCoupling net at) = (at ≡ cap.first) × (net_at file section.net ≡ Some net) × IsForeign file section cap
IsForeignAt file section cap _ = ⊥

-- a member of the value is bad, or none is and one is past the bound
abbrev pub IsValueAt : SpefText → Unit → ℕ → ℕ → SectionEnd → Type 0
IsValueAt file unit most token (BadNumber at) = (at ≡ token) × IsValueFault unit most (text_of file token) Bad
IsValueAt file unit most token (ValueTooLarge at) = (at ≡ token) × IsValueFault unit most (text_of file token) Large
IsValueAt file unit most token _ = ⊥

-- the fault of a point in the section at a place
abbrev pub IsFaultAt : SpefText → ℕ → Section → Point → SectionEnd → Type 0
IsFaultAt file place section (reference token) end = IsUnknownAt file token end
IsFaultAt file place section (naming token) end = IsRepeatedAt file place token end
IsFaultAt file place section (coupling cap) end = IsForeignAt file section cap end
IsFaultAt file place section (amount unit most token) end = IsValueAt file unit most token end

abbrev pub IsGood : SpefText → ℕ → Section → Point → Type 0
IsGood file place section point = (end : SectionEnd) → IsFaultAt file place section point end → ⊥

-- the first of these points that has a fault has this one
pub record IsFirstFault (file : SpefText) (place : ℕ) (section : Section) (points : List Point) (end : SectionEnd) : Type 0 where
  pub at : ℕ
  pub point : Point
  pub stands : slice_get points at ≡ Some point
  pub fault : IsFaultAt file place section point end
  pub earlier : All (IsGood file place section) (take at points)

-- no point of the section has a fault
abbrev pub IsFaultless : SpefText → HeadText → ℕ → Section → Type 0
IsFaultless file head place section = All (IsGood file place section) (points_of file head section)

abbrev pub AreFaultless : SpefText → HeadText → Type 0
AreFaultless file head = (place : ℕ) (section : Section) → slice_get file.reading.sections place ≡ Some section
    → IsFaultless file head place section

-- the first fault of the file
pub record IsFirstOfAll (file : SpefText) (head : HeadText) (end : SectionEnd) : Type 0 where
  pub place : ℕ
  pub section : Section
  pub stands : slice_get file.reading.sections place ≡ Some section
  pub first : IsFirstFault file place section (points_of file head section) end
  pub earlier : (other : ℕ) (section : Section) → other < place → slice_get file.reading.sections other ≡ Some section
      → IsFaultless file head other section

-- why a file has no nets
abbrev pub IsSectionEnd : SpefText → HeadText → SectionEnd → Type 0
IsSectionEnd file head OutOfMemory = ⊤
IsSectionEnd file head end = IsFirstOfAll file head end

-- the token of a refusal, and its place among those of one token
abbrev pub token_of : SectionEnd → ℕ
token_of (UnknownIndex token) = token
token_of (BadNumber token) = token
token_of (ValueTooLarge token) = token
token_of (RepeatedNet net token) = token
token_of (ForeignCoupling net token) = token
token_of OutOfMemory = 0

abbrev pub rank_of : SectionEnd → ℕ
rank_of (UnknownIndex token) = 0
rank_of (BadNumber token) = 1
rank_of (ValueTooLarge token) = 2
rank_of (RepeatedNet net token) = 3
rank_of (ForeignCoupling net token) = 4
rank_of OutOfMemory = 5

-- a fault that stands anywhere in the file
pub record HasFault (file : SpefText) (head : HeadText) (end : SectionEnd) : Type 0 where
  pub place : ℕ
  pub section : Section
  pub stands : slice_get file.reading.sections place ≡ Some section
  pub point : Point
  pub examined : Contains (points_of file head section) point
  pub fault : IsFaultAt file place section point end

-- of all faults of the file this one has the least token, and at it comes first
abbrev pub IsLeastFault : SpefText → HeadText → SectionEnd → Type 0
IsLeastFault file head end =
    HasFault file head end
    × ((other : SectionEnd) → HasFault file head other
    → (token_of end < token_of other) ⊎ ((token_of end ≡ token_of other) × (rank_of end ≤ rank_of other)))
