use Rattle.std.proofs.Common.{take}
use Rattle.liberty_groups.specs.Groups.{groups_of}
use Rattle.liberty_groups.specs.Tables.{group_at}
use Rattle.liberty_tables.specs.GroupIndex.{AreIndexed}
use Rattle.liberty_tables.proofs.group_index.GroupIndex.new.Given as goal

abbrev pub invariant-loop-place : goal.invariant-loop-place
invariant-loop-place l = AreIndexed l.tree l.name (take l.place (groups_of (group_at l.tree l.outer.0))) l.index.args l.index.groups.items
