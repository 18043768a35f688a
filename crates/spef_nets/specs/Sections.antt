-- What the sections of a SPEF file (IEEE 1481) say of their nets at each corner.
use Rattle.std.specs.Prelude.{◌≡◌, ℕ, Bool, List, length, map, slice_get, Option, Some, None, option_map}
use Rattle.corner_set.specs.Places.{value_at}
use Rattle.corner_set.specs.declared.pick.Pick.{Pick}
use Rattle.delay_units.specs.declared.numbers.Unit.{Unit}
use Rattle.name_table.specs.declared.spef_names.NodeName.{NodeName}
use Rattle.spef_text.specs.Entries.{Section, section_at}
use Rattle.spef_text.specs.SpefFiles.{SpefText}
use Rattle.spef_text.specs.Heads.{HeadText, text_of}
use Rattle.spef_nets.specs.Values.{triple_of, picked, IsAmount}
use Rattle.name_table.specs.NodeKeys.{Key, key_of}
use Rattle.spef_nets.specs.Nodes.{net_at}
use Rattle.spef_nets.specs.Elements.{Connection, Grounded, Joint, connections, capacitances, resistors, section_nodes}
use Rattle.delay_units.specs.Bounds.{most_farads, most_ohms}
use Rattle.spef_nets.specs.NetElements.{NetElements}
use Rattle.spef_nets.specs.declared.parts.Listed.{Listed}
use Rattle.spef_nets.specs.declared.parts.Ends.{Ends}

-- the value at a token has so many grains at the member that counts
abbrev pub HasGrains : SpefText → Unit → ℕ → Pick → ℕ → ℕ → Type 0
HasGrains file unit most pick token grains = IsAmount unit most (picked pick (triple_of (text_of file token))) grains

-- a connection without a load has the load 0
abbrev pub HasLoad : SpefText → Unit → Pick → Option ℕ → ℕ → Type 0
HasLoad file unit pick None grains = grains ≡ 0
HasLoad file unit pick (Some token) grains = HasGrains file unit most_farads pick token grains

-- the number and the member of each corner
pub record Corners (I : Type 0) : Type 0 where
  pub count : ℕ
  pub number : I → ℕ
  pub member : I → Pick

-- what the corner's value of a row is
pub record HasValue {T : Type 0} (count : ℕ) (grid : List T) (row number : ℕ) (P : T → Type 0) : Type 0 where
  pub value : T
  pub stands : value_at count grid row number ≡ Some value
  pub meets : P value

-- a connection, a capacitance and a resistor as they are kept, by the nodes of the section
pub record Listing : Type 0 where
  pub node : Option NodeName
  pub port : Bool
  pub direction : ℕ

abbrev pub listing_of : List NodeName → Listed → Listing
listing_of nodes conn = record { node = slice_get nodes conn.node; port = conn.port; direction = conn.direction }

abbrev pub listing : Connection → Listing
listing conn = record { node = Some conn.node; port = conn.port; direction = conn.direction }

-- A capacitance and a resistor stand at nodes by head and tail: the spelling that is kept is that of the node's first place.
abbrev pub key_at : List NodeName → ℕ → Option Key
key_at nodes number = option_map key_of (slice_get nodes number)

pub record KeyEnds : Type 0 where
  pub a : Option Key
  pub b : Option Key

abbrev pub ends_of : List NodeName → Ends → KeyEnds
ends_of nodes joint = record { a = key_at nodes joint.a; b = key_at nodes joint.b }

abbrev pub ends_at : Joint → KeyEnds
ends_at joint = record { a = Some (key_of joint.first); b = Some (key_of joint.second) }

-- The net is what the section says of it: its nodes by first place, its connections, its capacitances as they count, its resistors, and at
-- each corner the rounded reading of the member that counts there.
pub record IsNet {I : Type 0} (corners : Corners I) (file : SpefText) (head : HeadText) (section : Section)
    (net : NetElements) : Type 0 where
  pub named : net_at file section.net ≡ Some net.net
  pub nodes : net.nodes ≡ section_nodes file section
  pub conns : map (listing_of net.nodes) net.conns ≡ map listing (connections file section)
  pub loads : (row : ℕ) (conn : Connection) (corner : I) → slice_get (connections file section) row ≡ Some conn
      → HasValue corners.count net.loads row (corners.number corner)
      (λ value. HasLoad file head.cap_unit (corners.member corner) conn.load value.0)
  pub caps : map (key_at net.nodes) net.caps ≡ map (λ cap. Some (key_of cap.node)) (capacitances file section)
  pub farads : (row : ℕ) (cap : Grounded) (corner : I) → slice_get (capacitances file section) row ≡ Some cap
      → HasValue corners.count net.farads row (corners.number corner)
      (λ value. HasGrains file head.cap_unit most_farads (corners.member corner) cap.value value.0)
  pub joints : map (ends_of net.nodes) net.joints ≡ map ends_at (resistors file section)
  pub ohms : (row : ℕ) (joint : Joint) (corner : I) → slice_get (resistors file section) row ≡ Some joint
      → HasValue corners.count net.ohms row (corners.number corner)
      (λ value. HasGrains file head.res_unit most_ohms (corners.member corner) joint.value value.0)
  pub written : net.written ≡ length section.caps

-- the nets are what the sections say, each at its section's place
pub record AreNets {I : Type 0} (corners : Corners I) (file : SpefText) (head : HeadText) (nets : List NetElements) : Type 0 where
  pub count : length nets ≡ length file.reading.sections
  pub each : (place : ℕ) (net : NetElements) → slice_get nets place ≡ Some net
      → IsNet corners file head (section_at file.reading.sections place) net
