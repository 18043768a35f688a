use Rattle.std.proofs.Common.{◌≡◌, take}
use Rattle.name_table.proofs.Cutting.{IsLastAt}
use Rattle.name_table.proofs.Reading.{ends_inside}
use Rattle.name_table.proofs.spef_names.last_by_reading.Given as goal

-- the place of the last delimiter of what has been read, and whether that ends inside an escape
abbrev pub invariant-loop-place : goal.invariant-loop-place
invariant-loop-place l = record {
  so_far : IsLastAt l.delimiter (take l.place l.word) l.last;
  within : l.is_taken ≡ ends_inside (take l.place l.word);
}
