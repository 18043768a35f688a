-- The names of the ends of wires.
use Rattle.std.specs.Prelude.{ℕ, List, ◌∷◌, ◌++◌}
use Rattle.edge_io.specs.Bytes.{slash}
use Rattle.sdf_writer.specs.declared.ends.WireEnd.{WireEnd}
use Rattle.sdf_writer.specs.declared.ends.WireEnd.TheVariants.{Name, Pin}

-- a whole name, or a pin by the path of its instance, a divider, and its own name
abbrev pub end_name : WireEnd → List ℕ
end_name (Name name) = name.now
end_name (Pin instance pin) = instance.now ++ slash ∷ pin.now
