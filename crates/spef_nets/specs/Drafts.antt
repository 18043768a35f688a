-- The elements of a section as they are kept while it is read.
use Rattle.std.specs.Prelude.{◌≡◌, ℕ, ◌*◌, ◌<◌, ◌≤◌, Bool, true, false, List, [], ◌∷◌, ◌++◌, length, map, slice_get, take, All, Option, Some, None, option_to_list, ⊤}
use Rattle.std.specs.List.{flat_map}
use Rattle.corner_set.specs.declared.pick.Pick.{Pick}
use Rattle.delay_units.specs.declared.numbers.Unit.{Unit}
use Rattle.delay_units.specs.declared.quantities.Farads.{Farads}
use Rattle.delay_units.specs.declared.quantities.Ohms.{Ohms}
use Rattle.name_table.specs.declared.spef_names.NodeName.{NodeName}
use Rattle.spef_text.specs.Entries.{Section, section_at}
use Rattle.spef_text.specs.SpefFiles.{SpefText}
use Rattle.spef_text.specs.Heads.{HeadText, text_of}
use Rattle.spef_text.specs.declared.entries.Conn.{Conn}
use Rattle.spef_text.specs.declared.entries.Res.{Res}
use Rattle.spef_nets.specs.Values.{triple_of, AreGrains, grains_at}
use Rattle.name_table.specs.NodeKeys.{Key, key_of}
use Rattle.spef_nets.specs.Nodes.{first_places, named, net_at}
use Rattle.spef_nets.specs.Elements.{Connection, Grounded, Joint, connection_at, first_of_each, grounded, joint_at}
use Rattle.delay_units.specs.Bounds.{most_farads, most_ohms}
use Rattle.spef_nets.specs.NetElements.{NetElements}
use Rattle.spef_nets.specs.Sections.{Corners, HasValue, HasLoad, HasGrains, listing, listing_of, key_at, ends_of, ends_at}
use Rattle.spef_nets.specs.Faults.{Point, reference, naming, IsGood, IsFirstFault, IsValueAt, conn_points, cap_points, res_points, points_of}
use Rattle.spef_nets.specs.Refs.{Refs, no_refs, IsPut, Belongs, Joins, Numbers, IsRef, AreRefs, conn_keys, res_keys}
use Rattle.spef_nets.specs.declared.amounts.Grains.{Grains}
use Rattle.spef_nets.specs.declared.parts.Joined.{Joined}
use Rattle.spef_nets.specs.declared.ends.SectionEnd.{SectionEnd}
use Rattle.spef_nets.specs.declared.ends.SectionEnd.TheVariants.{OutOfMemory}

pub record Drafted : Type 0 where
  pub refs : Refs
  pub net : NetElements

-- a row of values, one for each corner
pub record IsRow {I T : Type 0} (corners : Corners I) (row : List T) (P : Pick → T → Type 0) : Type 0 where
  pub count : length row ≡ corners.count
  pub each : (corner : I) → (value : T) × (slice_get row (corners.number corner) ≡ Some value) × P (corners.member corner) value
  pub only : All (λ value. (pick : Pick) × P pick value) row

-- a row was put at the end
pub record AddsRow {I T : Type 0} (corners : Corners I) (old new : List T) (P : Pick → T → Type 0) : Type 0 where
  pub row : List T
  pub is : new ≡ old ++ row
  pub holds : IsRow corners row P

abbrev pub FaradsOf : Grains → Pick → Farads → Type 0
FaradsOf grains pick value = value.0 ≡ grains_at pick grains

abbrev pub OhmsOf : Grains → Pick → Ohms → Type 0
OhmsOf grains pick value = value.0 ≡ grains_at pick grains

-- a connection was put at the end
pub record PutsConn {I : Type 0} (corners : Corners I) (old new : Drafted) (word : ℕ) (conn : Conn) (grains : Grains) : Type 0 where
  pub number : ℕ
  pub numbered : Numbers old.refs new.refs word number
  pub loads : AddsRow corners old.net.loads new.net.loads (FaradsOf grains)
  pub is : new.net ≡ record {
    net = old.net.net;
    nodes = new.refs.nodes;
    conns = old.net.conns ++ record { node = number; port = conn.port; direction = conn.direction } ∷ [];
    loads = new.net.loads;
    caps = old.net.caps;
    farads = old.net.farads;
    joints = old.net.joints;
    ohms = old.net.ohms;
    written = old.net.written;
  }

-- a capacitance to ground was put at the end
pub record PutsCap {I : Type 0} (corners : Corners I) (old new : Drafted) (word : ℕ) (grains : Grains) : Type 0 where
  pub number : ℕ
  pub numbered : Numbers old.refs new.refs word number
  pub farads : AddsRow corners old.net.farads new.net.farads (FaradsOf grains)
  pub is : new.net ≡ record {
    net = old.net.net;
    nodes = new.refs.nodes;
    conns = old.net.conns;
    loads = old.net.loads;
    caps = old.net.caps ++ number ∷ [];
    farads = new.net.farads;
    joints = old.net.joints;
    ohms = old.net.ohms;
    written = old.net.written;
  }

-- a resistor was put at the end
pub record PutsRes {I : Type 0} (corners : Corners I) (old new : Drafted) (first second : ℕ) (grains : Grains) : Type 0 where
  pub a : ℕ
  pub b : ℕ
  pub middle : Refs
  pub first_numbered : Numbers old.refs middle first a
  pub second_numbered : Numbers middle new.refs second b
  pub ohms : AddsRow corners old.net.ohms new.net.ohms (OhmsOf grains)
  pub is : new.net ≡ record {
    net = old.net.net;
    nodes = new.refs.nodes;
    conns = old.net.conns;
    loads = old.net.loads;
    caps = old.net.caps;
    farads = old.net.farads;
    joints = old.net.joints ++ record { a = a; b = b } ∷ [];
    ohms = new.net.ohms;
    written = old.net.written;
  }

-- the rows of a grid are those of the elements
pub record AreRows {I T E : Type 0} (corners : Corners I) (grid : List T) (elements : List E) (P : E → Pick → T → Type 0) : Type 0 where
  pub rows : length grid ≡ length elements * corners.count
  pub each : (row : ℕ) (element : E) (corner : I) → slice_get elements row ≡ Some element
      → HasValue corners.count grid row (corners.number corner) (P element (corners.member corner))

abbrev pub element_nodes : List Connection → List Grounded → List Joint → List NodeName
element_nodes conns caps joints = map (λ conn. conn.node) conns ++ map (λ cap. cap.node) caps
    ++ flat_map (λ joint. joint.first ∷ joint.second ∷ []) joints

-- these elements are kept
pub record AreKept {I : Type 0} (corners : Corners I) (file : SpefText) (head : HeadText) (conns : List Connection) (caps : List Grounded)
    (joints : List Joint) (net : NetElements) : Type 0 where
  pub nodes : net.nodes ≡ first_places (element_nodes conns caps joints)
  pub listed : map (listing_of net.nodes) net.conns ≡ map listing conns
  pub loads : AreRows corners net.loads conns (λ conn pick value. HasLoad file head.cap_unit pick conn.load value.0)
  pub counted : map (key_at net.nodes) net.caps ≡ map (λ cap. Some (key_of cap.node)) caps
  pub farads : AreRows corners net.farads caps (λ cap pick value. HasGrains file head.cap_unit most_farads pick cap.value value.0)
  pub joined : map (ends_of net.nodes) net.joints ≡ map ends_at joints
  pub ohms : AreRows corners net.ohms joints (λ joint pick value. HasGrains file head.res_unit most_ohms pick joint.value value.0)
  pub small_loads : All (λ value. value.0 ≤ most_farads) net.loads
  pub small_caps : All (λ value. value.0 ≤ most_farads) net.farads
  pub small_ress : All (λ value. value.0 ≤ most_ohms) net.ohms

-- the points of a section up to so many connections, capacitances and resistors
abbrev pub points_upto : SpefText → HeadText → Section → ℕ → ℕ → ℕ → List Point
points_upto file head section conns caps ress =
    reference section.net ∷ naming section.net
    ∷ (conn_points file head [] (take conns section.conns) ++ flat_map (cap_points head) (take caps section.caps)
    ++ flat_map (res_points head) (take ress section.ress))

-- A section is read up to here: the nodes of so many resistors are known, and so many connections, capacitances and resistors are kept.
pub record IsUpto {I : Type 0} (corners : Corners I) (file : SpefText) (head : HeadText) (place joined conns caps ress : ℕ)
    (draft : Drafted) : Type 0 where
  pub net : net_at file (section_at file.reading.sections place).net ≡ Some draft.net.net
  pub nodes : draft.net.nodes ≡ draft.refs.nodes
  pub unwritten : draft.net.written ≡ 0
  pub refs : AreRefs file draft.net.net (conn_keys file (take conns (section_at file.reading.sections place).conns))
      (res_keys file (take joined (section_at file.reading.sections place).ress)) draft.refs
  pub kept : AreKept corners file head
      (first_of_each (flat_map (λ conn. option_to_list (connection_at file conn))
      (take conns (section_at file.reading.sections place).conns)))
      (flat_map (grounded file (section_at file.reading.sections place)) (take caps (section_at file.reading.sections place).caps))
      (flat_map (joint_at file) (take ress (section_at file.reading.sections place).ress))
      draft.net
  pub good : All (IsGood file place (section_at file.reading.sections place))
      (points_upto file head (section_at file.reading.sections place) conns caps ress)

-- why the section at a place is refused
abbrev pub IsStop : SpefText → HeadText → ℕ → SectionEnd → Type 0
IsStop file head place OutOfMemory = ⊤
IsStop file head place end = IsFirstFault file place (section_at file.reading.sections place)
    (points_of file head (section_at file.reading.sections place)) end

-- the references of a resistor's nodes
abbrev pub AreJoined : SpefText → List (List ℕ) → Res → Joined → Type 0
AreJoined file words res joined = IsRef file words res.first joined.first × IsRef file words res.second joined.second

abbrev pub corners_of : {I : Type 0} → ℕ → (I → ℕ) → (I → Pick → Pick) → Pick → Corners I
corners_of count number member pick = record { count = count; number = number; member = λ corner. member corner pick }

-- the values so far of a row that is put at the end
pub record AddsUpto {I T : Type 0} (corners : Corners I) (old new : List T) (P : Pick → T → Type 0) (many : ℕ) : Type 0 where
  pub row : List T
  pub is : new ≡ old ++ row
  pub count : length row ≡ many
  pub each : (corner : I) → corners.number corner < many → (value : T) × (slice_get row (corners.number corner) ≡ Some value)
      × P (corners.member corner) value
  pub only : All (λ value. (pick : Pick) × P pick value) row

-- a token's reference was looked up: its word stood before, or was put at the end, or its index is not in the map
pub data Refers (file : SpefText) (net : List ℕ) (token : ℕ) (old new : Refs) : Option ℕ → Type 0 where
  stood : {number : ℕ} → slice_get old.words number ≡ Some (text_of file token) → new ≡ old → Refers file net token old new (Some number)
  put : {number : ℕ} (node : NodeName) → named file true (text_of file token) ≡ Some node → number ≡ length old.words
      → IsPut net old new (text_of file token) node → Refers file net token old new (Some number)
  unknown : named file true (text_of file token) ≡ None → new ≡ old → Refers file net token old new None

abbrev pub JoinsBy : Refs → Refs → Option ℕ → Type 0
JoinsBy middle new None = new ≡ middle
JoinsBy middle new (Some word) = Joins middle new word

-- and its node, if it has one, is said to stand in a resistor
pub record JoinsAt (file : SpefText) (net : List ℕ) (token : ℕ) (old new : Refs) (word : Option ℕ) : Type 0 where
  pub middle : Refs
  pub refers : Refers file net token old middle word
  pub joins : JoinsBy middle new word

abbrev pub AreSomeRefs : SpefText → List ℕ → Refs → Type 0
AreSomeRefs file net refs = (listed : List Key) × (joined : List Key) × AreRefs file net listed joined refs

-- the references of the resistors, one after another
abbrev pub AllJoined : SpefText → List (List ℕ) → List Res → List Joined → Type 0
AllJoined file words ress joints = (i : ℕ) (res : Res) → slice_get ress i ≡ Some res → (joined : Joined)
    × (slice_get joints i ≡ Some joined) × AreJoined file words res joined

abbrev pub written_net : NetElements → ℕ → NetElements
written_net net written = record {
  net = net.net;
  nodes = net.nodes;
  conns = net.conns;
  loads = net.loads;
  caps = net.caps;
  farads = net.farads;
  joints = net.joints;
  ohms = net.ohms;
  written = written;
}

-- there was no memory, or the end is this
abbrev pub IsUnless : (SectionEnd → Type 0) → SectionEnd → Type 0
IsUnless P OutOfMemory = ⊤
IsUnless P end = P end

-- a load that was read: 0 where there is none
abbrev pub IsLoad : SpefText → Unit → Option ℕ → Grains → Type 0
IsLoad file unit None grains = grains ≡ record { min = 0; typ = 0; max = 0 }
IsLoad file unit (Some token) grains = AreGrains unit most_farads (triple_of (text_of file token)) grains

abbrev pub IsLoadFault : SpefText → Unit → Option ℕ → SectionEnd → Type 0
IsLoadFault file unit None end = ⊥
IsLoadFault file unit (Some token) end = IsValueAt file unit most_farads token end

-- whether a node belongs, if its index is in the map
abbrev pub BelongsBy : Refs → Option ℕ → Bool → Type 0
BelongsBy refs None answer = answer ≡ false
BelongsBy refs (Some word) answer = Belongs refs word answer

-- a capacitance was put at the end if it counts there
abbrev pub CountsBy : {I : Type 0} → Corners I → Drafted → Drafted → ℕ → Grains → Bool → Type 0
CountsBy corners old new word grains true = PutsCap corners old new word grains
CountsBy corners old new word grains false = new ≡ old

abbrev pub no_draft : SpefText → List ℕ → Drafted
no_draft file net = record {
  refs = no_refs file;
  net = record { net = net; nodes = []; conns = []; loads = []; caps = []; farads = []; joints = []; ohms = []; written = 0 };
}
