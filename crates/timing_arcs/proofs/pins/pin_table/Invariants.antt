-- What stands, and then the names of the groups that are left, are the pins of the cell.
use Rattle.std.proofs.Common.{◌≡◌, length, drop, codes}
use Rattle.std.specs.List.{fold, filter, flat_map, All}
use Rattle.liberty_groups.specs.Groups.{groups_of}
use Rattle.liberty_groups.specs.Tables.{group_at, IsGroup}
use Rattle.liberty_tables.specs.Library.{is_named}
use Rattle.timing_arcs.specs.PinModel.{entries_of, with_entry, pins_of}
use Rattle.timing_arcs.specs.PinTable.{entries_in}
use Rattle.timing_arcs.proofs.pins.pin_table.Given as goal

abbrev pub invariant-loop-place : goal.invariant-loop-place
invariant-loop-place l = record {
  even : length l.names ≡ length l.groups.items;
  within : All (λ id. IsGroup l.tree id.0) l.groups.items;
  entries : fold with_entry (entries_in l.tree l.names l.groups.items) (flat_map entries_of (filter (is_named (codes "pin")) (drop l.place (groups_of (group_at l.tree l.cell.0)))))
      ≡ pins_of (group_at l.tree l.cell.0);
}
