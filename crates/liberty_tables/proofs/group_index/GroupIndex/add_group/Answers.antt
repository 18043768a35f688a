use Rattle.std.proofs.Common.{sym}
use Rattle.liberty_groups.specs.Tables.{group_at}
use Rattle.liberty_tables.proofs.IndexLemmas.{passed_over, added}
use Rattle.liberty_tables.proofs.group_index.GroupIndex.add_group.Goals as goal

pub returns-in_default : goal.returns-in_default
returns-in_default c = λ groups so_far.
    passed_over c.args.tree.now c.args.name.now groups c.args.self.now.args c.args.self.now.groups.items (group_at c.args.tree.now c.args.group.0) so_far (sym c.in_default.ensures)

pub returns : goal.returns
returns c = λ groups so_far.
    added c.args.tree.now c.args.name.now groups c.args.group c.args.self.now.args c.args.self.now.groups.items c.in-Some.arg.now c.add.new.self.args c.add.new.self.groups.items
    c.requires (sym c.in-Some.ensures) so_far c.in_ok-add.ensures
