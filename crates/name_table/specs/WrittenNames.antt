-- Names of nodes that stand as they are written.
use Rattle.std.specs.Prelude.{◌≡◌, ℕ, List, ◌∷◌, ◌++◌, Option, Some, None}
use Rattle.std.specs.Option.{option_copied}
use Rattle.edge_io.specs.Bytes.{slash}
use Rattle.name_table.specs.declared.spef_names.NodeName.{NodeName}
use Rattle.name_table.specs.declared.written_names.WrittenName.{WrittenName}

-- head and tail as SDF spells them, joined by `/`
abbrev pub in_sdf : List ℕ → Option (List ℕ) → List ℕ
in_sdf head None = head
in_sdf head (Some tail) = head ++ slash ∷ tail

-- the head and the tail of a node, which are its spelling in SDF
pub record IsWritten (node : NodeName) (name : WrittenName) : Type 0 where
  pub head : name.head.now ≡ node.head
  pub tail : option_copied name.tail ≡ node.tail
  pub sdf : in_sdf name.head.now (option_copied name.tail) ≡ node.sdf
