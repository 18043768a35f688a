-- The entry lies in the part of the table that the span names.
use Rattle.std.proofs.Common.{sym, subst, arith, ℕ, ◌+◌, ◌<◌}
use Rattle.liberty_groups.proofs.Spans.{child_in, child_read, child_within}
use Rattle.liberty_groups.proofs.tree.GroupTree.child.Goals as goal

pub overflow_add-index : goal.overflow_add-index
overflow_add-index c = let below = child_in c.self.inside.names c.self.inside.texts.items c.self.inside.attributes.items c.self.inside.children.items c.self.inside.groups.items c.self.invariant.tables c.args.self.now c.self.view_is c.args.g.0 c.requires.group c.index.result.now c.index.ensures c.args.i c.requires.place in let len = c.self.inside.children.ok.0 in grind (arith, below, len)

pub index-requires-2 : goal.index-requires-2
index-requires-2 c = subst (λ (n : ℕ). c.index.result.now.children.from + c.args.i < n) (sym c.self.inside.children.ok.0) (child_in c.self.inside.names c.self.inside.texts.items c.self.inside.attributes.items c.self.inside.children.items c.self.inside.groups.items c.self.invariant.tables c.args.self.now c.self.view_is c.args.g.0 c.requires.group c.index.result.now c.index.ensures c.args.i c.requires.place)

pub returns-clause-tree : goal.returns-clause-tree
returns-clause-tree c = child_read c.self.inside.names c.self.inside.texts.items c.self.inside.attributes.items c.self.inside.children.items c.self.inside.groups.items c.self.invariant.tables c.args.self.now c.self.view_is c.args.g.0 c.requires.group c.index.result.now c.index.ensures c.args.i c.requires.place c.index-2.result.now c.index-2.ensures

pub returns-clause-within : goal.returns-clause-within
returns-clause-within c = child_within c.self.inside.names c.self.inside.texts.items c.self.inside.attributes.items c.self.inside.children.items c.self.inside.groups.items c.self.invariant.tables c.args.self.now c.self.view_is c.args.g.0 c.requires.group c.index.result.now c.index.ensures c.args.i c.requires.place c.index-2.result.now c.index-2.ensures
