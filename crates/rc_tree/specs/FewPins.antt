-- The nodes of pins whose names stand elsewhere.
use Rattle.std.specs.Prelude.{List, ◌∷◌, map}
use Rattle.rc_tree.specs.Nodes.{Node, node_of}
use Rattle.rc_tree.specs.PinNames.{pin_name}
use Rattle.rc_tree.specs.declared.pin_names.PinName.{PinName}

-- the driver's node first
abbrev pub pins_of : PinName → List PinName → List Node
pins_of driver sinks = node_of (pin_name driver) ∷ map node_of (map pin_name sinks)
