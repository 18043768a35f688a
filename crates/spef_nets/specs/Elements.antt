-- The elements of a net as its section of a SPEF file (IEEE 1481) gives them: connections, capacitances to ground, resistors. A value
-- stands for itself by its token.
use Rattle.std.specs.Prelude.{ℕ, Bool, List, [], ◌∷◌, ◌++◌, map, filter, Option, Some, None, option_map, option_to_list}
use Rattle.std.specs.List.{flat_map}
use Rattle.name_table.specs.declared.spef_names.NodeName.{NodeName}
use Rattle.spef_text.specs.Entries.{Section}
use Rattle.spef_text.specs.SpefFiles.{SpefText}
use Rattle.spef_text.specs.declared.entries.Conn.{Conn}
use Rattle.spef_text.specs.declared.entries.Cap.{Cap}
use Rattle.spef_text.specs.declared.entries.Res.{Res}
use Rattle.name_table.specs.NodeKeys.{same_node, each_once}
use Rattle.spef_nets.specs.Nodes.{node_at, nodes_at, first_places, belongs}

pub record Connection : Type 0 where
  pub node : NodeName
  pub port : Bool
  pub direction : ℕ
  pub load : Option ℕ

pub record Grounded : Type 0 where
  pub node : NodeName
  pub value : ℕ

pub record Joint : Type 0 where
  pub first : NodeName
  pub second : NodeName
  pub value : ℕ

abbrev pub connection_at : SpefText → Conn → Option Connection
connection_at file conn =
    option_map (λ node. record { node = node; port = conn.port; direction = conn.direction; load = conn.load }) (node_at file conn.node)

-- of several connections with one node the first alone
abbrev pub first_of_each : List Connection → List Connection
first_of_each conns = each_once (λ one other. same_node one.node other.node) conns

abbrev pub connections : SpefText → Section → List Connection
connections file section = first_of_each (flat_map (λ conn. option_to_list (connection_at file conn)) section.conns)

-- Where a capacitance counts: one to ground at its node, a coupling at each of its two places whose node belongs to the section.
abbrev pub places_of : SpefText → Section → ℕ → Option ℕ → List NodeName
places_of file section first None = nodes_at file (first ∷ [])
places_of file section first (Some second) = filter (belongs file section) (nodes_at file (first ∷ second ∷ []))

abbrev pub grounded : SpefText → Section → Cap → List Grounded
grounded file section cap = map (λ node. record { node = node; value = cap.value }) (places_of file section cap.first cap.second)

abbrev pub capacitances : SpefText → Section → List Grounded
capacitances file section = flat_map (grounded file section) section.caps

abbrev pub joint_of : Option NodeName → Option NodeName → ℕ → List Joint
joint_of (Some first) (Some second) value = record { first = first; second = second; value = value } ∷ []
joint_of (Some first) None value = []
joint_of None second value = []

abbrev pub joint_at : SpefText → Res → List Joint
joint_at file res = joint_of (node_at file res.first) (node_at file res.second) res.value

abbrev pub resistors : SpefText → Section → List Joint
resistors file section = flat_map (joint_at file) section.ress

-- the nodes of a section by first place: of its connections, of its capacitances as they count, of its resistors
abbrev pub section_nodes : SpefText → Section → List NodeName
section_nodes file section = first_places (
    map (λ conn. conn.node) (connections file section)
    ++ map (λ cap. cap.node) (capacitances file section)
    ++ flat_map (λ joint. joint.first ∷ joint.second ∷ []) (resistors file section))
