use Rattle.std.proofs.Common.{sym, ap, ◌∙◌}
use Rattle.liberty_groups.specs.Tables.{tree_of, group_at}
use Rattle.timing_arcs.specs.DelayGroups.{is_delay_group}
use Rattle.timing_arcs.specs.PinTable.{entries_in}
use Rattle.timing_arcs.proofs.AddingLemmas.{added_if, refused_if, added_not}
use Rattle.timing_arcs.proofs.delay_groups.add_group.Goals as goal

pub returns-then-is_delay_group-clause-ok : goal.returns-then-is_delay_group-clause-ok
returns-then-is_delay_group-clause-ok c = λ name here.
    added_if c.add_arcs.result (tree_of c.args.cell.now.tree) c.args.cell.now.names (entries_in c.args.cell.now.tree c.args.cell.now.names c.args.cell.now.groups) name (group_at c.args.cell.now.tree c.args.group.0) c.args.arcs.now.items c.add_arcs.new.arcs.items
    (ap (λ t. is_delay_group (group_at t c.args.group.0)) (sym c.tree.ensures.tree) ∙ sym c.is_delay_group.ensures ∙ c.if-is_delay_group.true) (c.add_arcs.ensures.ok name here)

pub returns-then-is_delay_group-clause-refused : goal.returns-then-is_delay_group-clause-refused
returns-then-is_delay_group-clause-refused c = λ name.
    refused_if c.add_arcs.result (tree_of c.args.cell.now.tree) (entries_in c.args.cell.now.tree c.args.cell.now.names c.args.cell.now.groups) name (group_at c.args.cell.now.tree c.args.group.0)
    (ap (λ t. is_delay_group (group_at t c.args.group.0)) (sym c.tree.ensures.tree) ∙ sym c.is_delay_group.ensures ∙ c.if-is_delay_group.true) (c.add_arcs.ensures.refused name)

pub returns-else-is_delay_group-clause-ok : goal.returns-else-is_delay_group-clause-ok
returns-else-is_delay_group-clause-ok c = λ name here.
    added_not (tree_of c.args.cell.now.tree) c.args.cell.now.names (entries_in c.args.cell.now.tree c.args.cell.now.names c.args.cell.now.groups) name (group_at c.args.cell.now.tree c.args.group.0) c.args.arcs.now.items (ap (λ t. is_delay_group (group_at t c.args.group.0)) (sym c.tree.ensures.tree) ∙ sym c.is_delay_group.ensures ∙ c.if-is_delay_group.false)
