use Rattle.slew_order.proofs.Refusing.{worst_net, worst_is}
use Rattle.slew_order.proofs.refusals.worst_at.Goals as goal

-- src/refusals.rt
pub worst_input-requires-clause-net : goal.worst_input-requires-clause-net
worst_input-requires-clause-net g c = worst_net c.args.design.now c.args.number c.flat-flat.result.now c.args.states.now c.args.arc c.flat-flat.ensures.flat c.flat-flat.ensures.nets c.requires.states c.requires.arc

pub returns-clause-value : goal.returns-clause-value
returns-clause-value g c = worst_is c.args.design.now c.args.number c.flat-flat.result.now c.args.states.now c.args.arc c.flat-flat.ensures.flat c.flat-flat.ensures.nets c.requires.states c.requires.arc
    _ c.args.edge c.worst_input.result c.corner.ensures c.worst_input.ensures.value
