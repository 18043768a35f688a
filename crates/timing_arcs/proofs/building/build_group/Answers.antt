use Rattle.std.proofs.Common.{sym, subst}
use Rattle.liberty_groups.specs.Tables.{tree_of, group_at}
use Rattle.std.specs.List.{flat_map}
use Rattle.timing_arcs.specs.BuiltParts.{AreArcsOf, IsModelOf}
use Rattle.timing_arcs.specs.CellFaults.{delay_questions, IsRefusal}
use Rattle.timing_arcs.specs.CellReading.{CellParts, entries_of, library_of}
use Rattle.timing_arcs.specs.DelayGroups.{delays_in}
use Rattle.timing_arcs.proofs.ModelLemmas.{model_of_group, refused_pins, refused_arcs}
use Rattle.timing_arcs.proofs.KeptLemmas.{cell_kept}
use Rattle.timing_arcs.proofs.building.build_group.Goals as goal

pub returns-in-Err-read_pins-clause-refused : goal.returns-in-Err-read_pins-clause-refused
returns-in-Err-read_pins-clause-refused c =
    refused_pins (tree_of c.args.tree.now) c.args.tree.now (group_at c.args.tree.now c.args.group.0) c.in-Ok.table.names c.in-Ok.table.groups.items c.in-Err-read_pins.fault c.in-Ok.ensures c.in-Err-read_pins.ensures.refused

pub of-requires : goal.of-requires
of-requires c =
    cell_kept (tree_of c.args.tree.now) c.args.tree.now c.in-Ok.table.names c.in-Ok.table.groups.items c.in-Ok-read_pins.pins.items c.in-Ok.ensures.even c.find-place.ensures.distinct c.in-Ok-read_pins.ensures.ok c.in-Ok-read_arcs.arcs.items (subst (λ (r : CellParts). AreArcsOf (library_of r) r.names (entries_of r) c.in-Ok-read_arcs.arcs.items) c.new-cell.ensures c.in-Ok-read_arcs.ensures.ok)

pub returns-in-Ok-read_arcs-clause-ok : goal.returns-in-Ok-read_arcs-clause-ok
returns-in-Ok-read_arcs-clause-ok c =
    subst (IsModelOf (tree_of c.args.tree.now) (group_at c.args.tree.now c.args.group.0)) (sym c.of.ensures)
    (model_of_group (tree_of c.args.tree.now) c.args.tree.now (group_at c.args.tree.now c.args.group.0) c.in-Ok.table.names c.in-Ok.table.groups.items c.in-Ok-read_pins.pins.items c.in-Ok-read_arcs.arcs.items
    c.in-Ok.ensures c.in-Ok-read_pins.ensures.ok c.in-Ok-read_pins.ensures.sound (subst (λ (r : CellParts). AreArcsOf (library_of r) r.names (entries_of r) c.in-Ok-read_arcs.arcs.items) c.new-cell.ensures c.in-Ok-read_arcs.ensures.ok))

pub returns-clause-refused : goal.returns-clause-refused
returns-clause-refused c =
    refused_arcs (tree_of c.args.tree.now) c.args.tree.now (group_at c.args.tree.now c.args.group.0) c.in-Ok.table.names c.in-Ok.table.groups.items c.in-Err-read_arcs.fault c.in-Ok.ensures c.in-Ok-read_pins.ensures.sound (subst (λ (r : CellParts). IsRefusal (library_of r) (flat_map (delay_questions (entries_of r)) (flat_map delays_in (entries_of r))) c.in-Err-read_arcs.fault) c.new-cell.ensures c.in-Err-read_arcs.ensures.refused)
