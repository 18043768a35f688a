use Rattle.std.proofs.Common.{◌∙◌}
use Rattle.netlist_link.proofs.LinkSteps.{top_walkable, top_known, flat_ok}
use Rattle.netlist_link.proofs.linking.flatten_and_link.Goals as goal

pub link-requires-clause-walkable : goal.link-requires-clause-walkable
link-requires-clause-walkable g c = top_walkable c.args.modules.now c.args.top.now c.args.cells.now c.sound.ensures.modules c.requires.cells c.in-Some.top
    (record { within = c.in-Some.ensures.some.0; named = c.in-Some.ensures.some.1 ∙ c.bytes.ensures })

pub link-requires-clause-known : goal.link-requires-clause-known
link-requires-clause-known g c = top_known c.args.modules.now c.args.top.now c.args.cells.now c.sound.ensures.modules c.requires.cells c.in-Some.top
    (record { within = c.in-Some.ensures.some.0; named = c.in-Some.ensures.some.1 ∙ c.bytes.ensures })

pub returns-clause-linked : goal.returns-clause-linked
returns-clause-linked g c = flat_ok c.args.modules.now c.args.top.now c.args.cells.now c.sound.ensures.modules c.requires.cells c.in-Some.top
    (record { within = c.in-Some.ensures.some.0; named = c.in-Some.ensures.some.1 ∙ c.bytes.ensures }) c.link.result c.link.ensures.linked
