-- What stands, and then the names that are left, is what is to stand.
use Rattle.std.proofs.Common.{◌≡◌, length, drop}
use Rattle.std.specs.List.{fold, All}
use Rattle.liberty_groups.specs.Tables.{group_at, IsGroup}
use Rattle.timing_arcs.specs.PinModel.{entries_of, with_entry}
use Rattle.timing_arcs.specs.PinTable.{entries_in}
use Rattle.timing_arcs.proofs.pins.add_names.Given as goal

abbrev pub invariant-loop-place : goal.invariant-loop-place
invariant-loop-place l = record {
  even : length l.names ≡ length l.groups.items;
  within : All (λ id. IsGroup l.tree id.0) l.groups.items;
  entries : fold with_entry (entries_in l.tree l.names l.groups.items) (drop l.place (entries_of (group_at l.tree l.group.0)))
      ≡ fold with_entry (entries_in l.tree l.initial.names l.initial.groups.items) (entries_of (group_at l.tree l.group.0));
}
