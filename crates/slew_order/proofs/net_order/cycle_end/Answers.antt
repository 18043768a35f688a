use Rattle.std.proofs.Common.{subst}
use Rattle.slew_states.specs.Ends.{CarriesLoop}
use Rattle.slew_order.specs.Timings.{flat_in}
use Rattle.slew_order.proofs.Cycling.{numbers_within, numbers_cycle}
use Rattle.slew_order.proofs.net_order.cycle_end.Goals as goal

-- src/net_order.rt
pub arcs_of-requires : goal.arcs_of-requires
arcs_of-requires g c = numbers_within c.args.design.now c.arcs.ensures.there c.in-Cycle.cycle.items c.deref.result.now c.arcs.result.now
    (subst (CarriesLoop (flat_in c.args.design.now)) c.in-Cycle.is c.requires) c.deref.ensures.value c.arcs.ensures.arcs

pub returns-in-Ok : goal.returns-in-Ok
returns-in-Ok g c = numbers_cycle c.args.design.now c.arcs.ensures.there c.in-Cycle.cycle.items c.deref.result.now c.arcs.result.now c.in-Ok.arcs
    (subst (CarriesLoop (flat_in c.args.design.now)) c.in-Cycle.is c.requires) c.deref.ensures.value c.arcs.ensures.arcs c.in-Ok.ensures
