use Rattle.std.proofs.Common.{◌≡◌, take}
use Rattle.name_table.specs.SdfNames.{part}
use Rattle.netlist_link.proofs.flat_names.is_plain_name.Given as goal

abbrev pub invariant-loop-byte : goal.invariant-loop-byte
invariant-loop-byte l = part (take l.byte-index l.name) ≡ take l.byte-index l.name
