-- The elements of a net, as its section of a SPEF file (IEEE 1481) and its pins give them.
use Rattle.std.specs.Prelude.{◌≡◌, ℕ, ◌+◌, ◌<◌, ◌⊎◌, ◌==◌, not, if◌then◌else◌, List, [], ◌++◌, map, filter, length, slice_index, slice_index_or, slice_get, Some, All, Contains}
use Rattle.std.specs.List.{range_with_len}
use Rattle.name_table.specs.declared.spef_names.NodeName.{NodeName}
use Rattle.spef_nets.specs.NetElements.{NetElements as SectionElements}
use Rattle.spef_nets.specs.declared.parts.Ends.{Ends}
use Rattle.spef_nets.specs.declared.parts.Listed.{Listed}
use Rattle.rc_tree.specs.NetElements.{NetElements}
use Rattle.name_table.specs.NodeKeys.{same_key}
use Rattle.rc_tree.specs.Nodes.{Node, node_of, first_places}
use Rattle.rc_tree.specs.Pins.{Pins, pin_nodes}
use Rattle.rc_tree.specs.Values.{farads_at, ohms_at}
use Rattle.rc_tree.specs.Arenas.{most_elements}

-- the node of a number of the section
abbrev pub section_node : SectionElements → Pins → ℕ → Node
section_node section pins number = node_of (slice_index_or section.nodes number pins.driver)

-- the node of a sink
abbrev pub sink_node : Pins → ℕ → Node
sink_node pins sink = node_of (slice_index_or pins.sinks sink pins.driver)

-- the ends of a resistor, by the numbers of the section
abbrev pub joint_at : SectionElements → ℕ → Ends
joint_at section place = slice_index_or section.joints place (record { a = 0; b = 0 })

-- The nodes after the driver's: the other pins, and then by first place the nodes of the section. Without a resistor the driver's
-- node is alone.
abbrev pub other_nodes : SectionElements → Pins → List Node
other_nodes section pins =
    if length section.joints == 0 then []
    else filter (λ other. not (same_key (node_of pins.driver) other)) (first_places (map node_of pins.sinks ++ map node_of section.nodes))

-- where something at a node is: without a resistor everything is on the driver's node
abbrev pub on_net : SectionElements → Pins → Node → Node
on_net section pins node = if length section.joints == 0 then node_of pins.driver else node

-- The elements at a corner: the section's resistors and capacitances, and for each sink its load.
abbrev pub net_elements : ℕ → SectionElements → Pins → ℕ → NetElements Node
net_elements count section pins number = record {
  driver = node_of pins.driver;
  others = other_nodes section pins;
  resistors = map (λ place. record {
    from = section_node section pins (joint_at section place).a;
    to = section_node section pins (joint_at section place).b;
    ohms = ohms_at count section.ohms place number;
  })
      (range_with_len 0 (length section.joints));
  capacitances =
      map (λ place. record {
        node = on_net section pins (section_node section pins (slice_index section.caps place));
        farads = farads_at count section.farads place number;
      }) (range_with_len 0 (length section.caps))
      ++ map (λ sink. record { node = on_net section pins (sink_node pins sink); farads = farads_at count pins.loads sink number })
      (range_with_len 0 (length pins.sinks));
}

-- the node of a connection is among these
abbrev pub IsListed : SectionElements → List Node → Listed → Type 0
IsListed section nodes conn = (name : NodeName) × (slice_get section.nodes conn.node ≡ Some name) × Contains nodes (node_of name)

abbrev pub AreListed : SectionElements → List Node → Type 0
AreListed section nodes = All (IsListed section nodes) section.conns

-- the first connection whose node is not among these, by its name
pub record IsFirstStrange (section : SectionElements) (nodes : List Node) (name : NodeName) : Type 0 where
  pub place : ℕ
  pub conn : Listed
  pub here : slice_get section.conns place ≡ Some conn
  pub named : slice_get section.nodes conn.node ≡ Some name
  pub strange : Contains nodes (node_of name) → ⊥
  pub before : (k : ℕ) (d : Listed) → k < place → IsListed section nodes (slice_index_or section.conns k d)

-- too many resistors, or too many written capacitances and pins together
abbrev pub IsTooLarge : SectionElements → Pins → Type 0
IsTooLarge section pins = (most_elements < length section.joints) ⊎ (most_elements < section.written + length (pin_nodes pins))
