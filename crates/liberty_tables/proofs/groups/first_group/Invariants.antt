-- The first of all is the first of those that are left.
use Rattle.std.proofs.Common.{◌≡◌, drop}
use Rattle.std.specs.List.{find}
use Rattle.liberty_groups.specs.Groups.{groups_of}
use Rattle.liberty_groups.specs.Tables.{group_at}
use Rattle.liberty_tables.specs.Library.{is_named, first_group}
use Rattle.liberty_tables.proofs.groups.first_group.Given as goal

abbrev pub invariant-loop-place : goal.invariant-loop-place
invariant-loop-place l = first_group l.name (group_at l.tree l.outer.0) ≡ find (is_named l.name) (drop l.place (groups_of (group_at l.tree l.outer.0)))
