use Rattle.std.proofs.Common.{◌≡◌, take}
use Rattle.name_table.specs.SdfNames.{canonical}
use Rattle.name_table.proofs.Reading.{ends_inside}
use Rattle.name_table.proofs.sdf_names.canonical_sdf.Given as goal

-- the spelling of what has been read, and whether it ends inside an escape
abbrev pub invariant-loop-byte : goal.invariant-loop-byte
invariant-loop-byte l = record {
  so_far : l.spelling.items ≡ canonical l.divider (take l.byte-index l.word);
  within : l.is_taken ≡ ends_inside (take l.byte-index l.word);
}
