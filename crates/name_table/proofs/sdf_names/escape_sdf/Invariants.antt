use Rattle.std.proofs.Common.{◌≡◌, take}
use Rattle.name_table.specs.SdfNames.{part}
use Rattle.name_table.proofs.sdf_names.escape_sdf.Given as goal

-- the spelling of what has been read
abbrev pub invariant-loop-byte : goal.invariant-loop-byte
invariant-loop-byte l = l.spelling.items ≡ part (take l.byte-index l.name)
