use Rattle.std.proofs.Common.{take}
use Rattle.liberty_groups.specs.Tables.{attribute_at}
use Rattle.liberty_tables.specs.NumberLists.{pieces_of}
use Rattle.liberty_tables.specs.Kept.{AreKept}
use Rattle.liberty_tables.proofs.number_lists.read_list.Given as goal

abbrev pub invariant-loop-place : goal.invariant-loop-place
invariant-loop-place l = AreKept l.unit (pieces_of (take l.place (attribute_at l.tree l.attribute.0).values)) l.readings.within l.readings.values.items
