use Rattle.std.proofs.Common.{take}
use Rattle.slew_order.proofs.Links.{nets_there}
use Rattle.slew_order.proofs.flattening.flat_arcs.Goals as goal

-- src/flattening.rt
pub returns-clause-nets : goal.returns-clause-nets
returns-clause-nets g c = nets_there c.args.linked.now.cells c.args.linked.now.netlist c.args.linked.now.linked (take c.loop-place.place c.args.arcs.now) c.loop-place.flat.items c.loop-place.invariant
