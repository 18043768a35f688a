use Rattle.std.proofs.Common.{◌≡◌, take}
use Rattle.name_table.specs.Characters.{characters}
use Rattle.name_table.specs.SpefNames.{text_of}
use Rattle.name_table.proofs.Reading.{ends_inside}
use Rattle.name_table.proofs.spef_names.text_of.Given as goal

-- the text of what has been read, and whether it ends inside an escape
abbrev pub invariant-loop-byte : goal.invariant-loop-byte
invariant-loop-byte l = record {
  so_far : l.text.items ≡ text_of l.marks (characters (take l.byte-index l.word));
  within : l.is_taken ≡ ends_inside (take l.byte-index l.word);
}
