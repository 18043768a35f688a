-- What the key of the node of a token is.
use Rattle.std.specs.Prelude.{◌≡◌, ℕ, Option, Some, None}
use Rattle.name_table.specs.declared.spef_names.NodeName.{NodeName}
use Rattle.spef_text.specs.SpefFiles.{SpefText}
use Rattle.name_table.specs.NodeKeys.{Key, key_of}
use Rattle.spef_nets.specs.Nodes.{node_at}

-- the key of the node that a token names, or nothing where it names none
abbrev pub IsKeyAt : SpefText → ℕ → Option Key → Type 0
IsKeyAt file token None = node_at file token ≡ None
IsKeyAt file token (Some key) = (node : NodeName) × (node_at file token ≡ Some node) × (key ≡ key_of node)
