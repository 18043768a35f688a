-- The entry lies in the part of the table that the span names.
use Rattle.std.proofs.Common.{sym, subst, arith, ℕ, ◌+◌, ◌<◌}
use Rattle.liberty_groups.proofs.Spans.{value_in, value_read}
use Rattle.liberty_groups.proofs.tree.GroupTree.value.Goals as goal

pub overflow_add-index : goal.overflow_add-index
overflow_add-index c = let below = value_in c.self.inside.names c.self.inside.texts.items c.self.inside.attributes.items c.self.inside.children.items c.self.inside.groups.items c.self.invariant.tables c.args.self.now c.self.view_is c.args.a.0 c.requires.attribute c.index.result.now c.index.ensures c.args.i c.requires.place in let len = c.self.inside.texts.ok.0 in grind (arith, below, len)

pub index-requires-2 : goal.index-requires-2
index-requires-2 c = subst (λ (n : ℕ). c.index.result.now.values.from + c.args.i < n) (sym c.self.inside.texts.ok.0) (value_in c.self.inside.names c.self.inside.texts.items c.self.inside.attributes.items c.self.inside.children.items c.self.inside.groups.items c.self.invariant.tables c.args.self.now c.self.view_is c.args.a.0 c.requires.attribute c.index.result.now c.index.ensures c.args.i c.requires.place)

pub returns : goal.returns
returns c = value_read c.self.inside.names c.self.inside.texts.items c.self.inside.attributes.items c.self.inside.children.items c.self.inside.groups.items c.self.invariant.tables c.args.self.now c.self.view_is c.args.a.0 c.requires.attribute c.index.result.now c.index.ensures c.args.i c.requires.place c.index-2.result.now c.index-2.ensures
