-- The names of a net's nodes, which the words of a file give.
use Rattle.std.specs.Prelude.{◌≡◌, ℕ, List, All, slice_get, Some}
use Rattle.name_table.specs.NodeKeys.{Key, key_of}
use Rattle.name_table.specs.declared.spef_names.NodeName.{NodeName}
use Rattle.spef_text.specs.SpefFiles.{SpefText}
use Rattle.spef_text.specs.Heads.{HeadText, IsHeadOf}
use Rattle.spef_nets.specs.Nodes.{node_at}

-- a file, and nodes that it names
pub record SpelledNodes : Type 0 where
  pub file : SpefText
  pub nodes : List NodeName

-- a token that names a node of the file
abbrev pub NamesOne : SpefText → ℕ → Type 0
NamesOne file token = (node : NodeName) × (node_at file token ≡ Some node)

abbrev pub NameNodes : SpefText → List ℕ → Type 0
NameNodes file tokens = All (NamesOne file) tokens

pub record AreSpelled (file : SpefText) (head : HeadText) (tokens : List ℕ) : Type 0 where
  pub head_of_file : IsHeadOf file head
  pub each : NameNodes file tokens

-- the spelling in SDF of the node of this number
abbrev pub IsSdfAt : List NodeName → ℕ → List ℕ → Type 0
IsSdfAt nodes number sdf = (node : NodeName) × (slice_get nodes number ≡ Some node) × (node.sdf ≡ sdf)

-- what makes the node of this number the one that it is
abbrev pub IsKeyOf : List NodeName → ℕ → Key → Type 0
IsKeyOf nodes number key = (node : NodeName) × (slice_get nodes number ≡ Some node) × (key ≡ key_of node)
