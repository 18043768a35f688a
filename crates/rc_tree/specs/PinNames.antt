-- The names of pins as nodes of a SPEF file (IEEE 1481).
use Rattle.std.specs.Prelude.{ℕ, List, ◌∷◌, ◌++◌, Option, Some, None}
use Rattle.std.specs.Option.{option_copied}
use Rattle.edge_io.specs.Bytes.{slash}
use Rattle.name_table.specs.SdfNames.{part}
use Rattle.name_table.specs.declared.spef_names.NodeName.{NodeName}
use Rattle.rc_tree.specs.declared.pin_names.PinName.{PinName}

-- a head that SDF spells so, and a tail, as SDF spells them together
abbrev pub pin_sdf : List ℕ → Option (List ℕ) → List ℕ
pin_sdf head_sdf None = head_sdf
pin_sdf head_sdf (Some tail) = head_sdf ++ slash ∷ part tail

-- the name of a pin's node
abbrev pub pin_name : PinName → NodeName
pin_name pin = record {
  head = pin.head.now;
  tail = option_copied pin.tail;
  sdf = pin_sdf pin.head_sdf.now (option_copied pin.tail);
}
