-- The indices are those of the entries so far, and no two of them are one.
use Rattle.std.proofs.Common.{◌≡◌, take}
use Rattle.name_table.specs.Names.{AreDistinct}
use Rattle.spef_text.specs.Heads.{indices_of}
use Rattle.spef_text.proofs.name_map.read_indices.Given as goal

abbrev pub invariant-loop-entry : goal.invariant-loop-entry
invariant-loop-entry l = record { so_far : l.indices ≡ indices_of l.file (take l.entry-index l.entries); distinct : AreDistinct l.indices }
