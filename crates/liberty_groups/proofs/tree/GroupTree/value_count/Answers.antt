-- As many as its span has.
use Rattle.std.proofs.Common.{◌∙◌}
use Rattle.liberty_groups.proofs.Spans.{value_count_is}
use Rattle.liberty_groups.proofs.tree.GroupTree.value_count.Goals as goal

pub returns : goal.returns
returns c = c.len.ensures ∙ value_count_is c.self.inside.names c.self.inside.texts.items c.self.inside.attributes.items c.self.inside.children.items c.self.inside.groups.items c.self.invariant.tables c.args.self.now c.self.view_is c.args.a.0 c.requires c.index.result.now c.index.ensures
