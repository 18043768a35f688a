-- The nodes of a net (IEEE 1481).
use Rattle.std.specs.Prelude.{if◌then◌else◌, List, [], ◌∷◌, ◌++◌}
use Rattle.name_table.specs.NodeKeys.{Key, key_of, same_key, among, each_once}
use Rattle.name_table.specs.declared.spef_names.NodeName.{NodeName}

-- a node is the one that it is by its head and its tail, however they are written
abbrev pub Node : Type 0
Node = Key

abbrev pub node_of : NodeName → Node
node_of name = key_of name

-- each node once, at its first place
abbrev pub first_places : List Node → List Node
first_places nodes = each_once same_key nodes

-- a node more at the end, where it is not there already
abbrev pub with_node : List Node → Node → List Node
with_node nodes node = if among node nodes then nodes else nodes ++ node ∷ []

-- nodes more at the end, each where it is not there already
abbrev pub with_nodes : List Node → List Node → List Node
with_nodes nodes [] = nodes
with_nodes nodes (node ∷ later) = with_nodes (with_node nodes node) later
