use Rattle.std.proofs.Common.{take}
use Rattle.liberty_groups.specs.Groups.{groups_of}
use Rattle.liberty_groups.specs.Tables.{group_at}
use Rattle.liberty_tables.proofs.IndexLemmas.{taken}
use Rattle.liberty_tables.proofs.group_index.GroupIndex.new.Goals as goal

pub loop-place-preserved : goal.loop-place-preserved
loop-place-preserved c =
    let groups = groups_of (group_at c.args.tree.now c.args.outer.0) in
    taken c.args.tree.now c.args.name.now groups c.loop-place.place (group_at c.args.tree.now c.child.result.0) c.add_group.new.self.args c.add_group.new.self.groups.items c.child.ensures.tree
    (c.in_ok-add_group.ensures (take c.loop-place.place groups) c.loop-place.invariant)
