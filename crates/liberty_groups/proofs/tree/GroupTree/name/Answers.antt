-- The row has the name.
use Rattle.liberty_groups.proofs.Spans.{name_is}
use Rattle.liberty_groups.proofs.tree.GroupTree.name.Goals as goal

pub returns : goal.returns
returns c = name_is c.self.inside.names c.self.inside.texts.items c.self.inside.attributes.items c.self.inside.children.items c.self.inside.groups.items c.self.invariant.tables c.args.self.now c.self.view_is c.args.g.0 c.requires c.index.result.now c.index.ensures
