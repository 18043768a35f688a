use Rattle.std.proofs.Common.{rules, ◌+◌, drop, sym, ap, ◌∙◌, codes}
use Rattle.std.specs.List.{fold, filter, flat_map}
use Rattle.liberty_groups.specs.Groups.{groups_of}
use Rattle.liberty_groups.specs.Tables.{group_at}
use Rattle.liberty_tables.specs.Library.{is_named, groups_named}
use Rattle.timing_arcs.specs.PinModel.{entries_of, with_entry, pins_of}
use Rattle.timing_arcs.specs.PinTable.{entries_in}
use Rattle.timing_arcs.proofs.PinLemmas.{groups_at}
use Rattle.timing_arcs.proofs.pins.pin_table.Goals as goal

pub loop-place-init : goal.loop-place-init
unfolding entries_in pins_of groups_named
loop-place-init c = search rules

pub loop-place-preserved : goal.loop-place-preserved
loop-place-preserved c =
    let tree = c.args.tree.now in
    let groups = groups_of (group_at tree c.args.cell.0) in
    let step = groups_at with_entry (entries_in tree c.loop-place.names c.loop-place.groups.items) entries_of (is_named (codes "pin")) groups c.loop-place.place (group_at tree c.child.result.0) c.child.ensures.tree in
    record {
      even = c.in_ok-add_group.ensures.even;
      within = c.in_ok-add_group.ensures.within;
      entries = ap (λ now. fold with_entry now (flat_map entries_of (filter (is_named (codes "pin")) (drop (c.loop-place.place + 1) groups)))) c.in_ok-add_group.ensures.entries ∙ sym step ∙ c.loop-place.invariant.entries;
    }
