use Rattle.spef_nets.specs.RowsOf.{rows_of, rows_at}
use Rattle.spef_nets.proofs.TableLemmas.{in_ends, in_nets, its_behind, its_within, its_net, its_whole, part_spelled}
use Rattle.spef_nets.proofs.sections.Sections.get.Goals as goal

-- src/sections.rt
pub ends_of-requires : goal.ends_of-requires
ends_of-requires g c = in_ends c.self.inside.file.now c.self.inside.head.now g.C.CornerSet.COUNT c.self.inside.nets c.self.inside.tables.ends.items c.self.inside.tables.nodes.items (rows_of c.self.inside.tables.elements) c.self.invariant c.args.self.now c.self.view_is c.args.s c.requires

pub name-requires : goal.name-requires
name-requires g c = in_nets c.self.inside.file.now c.self.inside.head.now g.C.CornerSet.COUNT c.self.inside.nets c.self.inside.tables.ends.items c.self.inside.tables.nodes.items (rows_of c.self.inside.tables.elements) c.self.invariant c.args.self.now c.self.view_is c.args.s c.requires

pub nodes_between-requires : goal.nodes_between-requires
nodes_between-requires g c = record {
  behind = its_behind c.self.inside.file.now c.self.inside.head.now g.C.CornerSet.COUNT c.self.inside.nets c.self.inside.tables.ends.items c.self.inside.tables.nodes.items (rows_of c.self.inside.tables.elements) c.self.invariant c.args.self.now c.self.view_is c.args.s c.requires c.ends_of.result.0 c.ends_of.result.1 c.ends_of.ensures.from c.ends_of.ensures.to;
  within = its_within c.self.inside.file.now c.self.inside.head.now g.C.CornerSet.COUNT c.self.inside.nets c.self.inside.tables.ends.items c.self.inside.tables.nodes.items (rows_of c.self.inside.tables.elements) c.self.invariant c.args.self.now c.self.view_is c.args.s c.requires c.ends_of.result.0 c.ends_of.result.1 c.ends_of.ensures.from c.ends_of.ensures.to;
}

pub elements_between-requires : goal.elements_between-requires
elements_between-requires g c = record {
  behind = its_behind c.self.inside.file.now c.self.inside.head.now g.C.CornerSet.COUNT c.self.inside.nets c.self.inside.tables.ends.items c.self.inside.tables.nodes.items (rows_of c.self.inside.tables.elements) c.self.invariant c.args.self.now c.self.view_is c.args.s c.requires c.ends_of.result.0 c.ends_of.result.1 c.ends_of.ensures.from c.ends_of.ensures.to;
  within = its_within c.self.inside.file.now c.self.inside.head.now g.C.CornerSet.COUNT c.self.inside.nets c.self.inside.tables.ends.items c.self.inside.tables.nodes.items (rows_of c.self.inside.tables.elements) c.self.invariant c.args.self.now c.self.view_is c.args.s c.requires c.ends_of.result.0 c.ends_of.result.1 c.ends_of.ensures.from c.ends_of.ensures.to;
  filled = c.self.invariant.filled;
}

pub invariant_of-result : goal.invariant_of-result
invariant_of-result g c = (
  part_spelled c.self.inside.file.now c.self.inside.head.now c.self.inside.tables.nodes.items c.nodes_between.result.now c.ends_of.result.0.nodes c.ends_of.result.1.nodes c.self.invariant.spelled c.nodes_between.ensures,
  its_whole c.self.inside.file.now c.self.inside.head.now g.C.CornerSet.COUNT c.self.inside.nets c.self.inside.tables.ends.items c.self.inside.tables.nodes.items (rows_of c.self.inside.tables.elements) c.self.invariant c.args.self.now c.self.view_is c.args.s c.requires c.ends_of.result.0 c.ends_of.result.1 c.ends_of.ensures.from c.ends_of.ensures.to c.name.result.now c.name.ensures c.nodes_between.result.now c.nodes_between.ensures (rows_at c.elements_between.result) c.elements_between.ensures,
)

pub returns : goal.returns
returns g c = record {
  net = its_net c.self.inside.file.now c.self.inside.head.now g.C.CornerSet.COUNT c.self.inside.nets c.self.inside.tables.ends.items c.self.inside.tables.nodes.items (rows_of c.self.inside.tables.elements) c.self.invariant c.args.self.now c.self.view_is c.args.s c.requires c.ends_of.result.0 c.ends_of.result.1 c.ends_of.ensures.from c.ends_of.ensures.to c.name.result.now c.name.ensures c.nodes_between.result.now c.nodes_between.ensures (rows_at c.elements_between.result) c.elements_between.ensures;
  whole = its_whole c.self.inside.file.now c.self.inside.head.now g.C.CornerSet.COUNT c.self.inside.nets c.self.inside.tables.ends.items c.self.inside.tables.nodes.items (rows_of c.self.inside.tables.elements) c.self.invariant c.args.self.now c.self.view_is c.args.s c.requires c.ends_of.result.0 c.ends_of.result.1 c.ends_of.ensures.from c.ends_of.ensures.to c.name.result.now c.name.ensures c.nodes_between.result.now c.nodes_between.ensures (rows_at c.elements_between.result) c.elements_between.ensures;
}
