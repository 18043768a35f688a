use Rattle.std.proofs.Common.{sym, subst}
use Rattle.slew_order.specs.Slews.{AreSlews}
use Rattle.slew_order.proofs.Slewing.{slews_are}
use Rattle.slew_order.proofs.propagation.slews_of.Goals as goal

-- src/propagation.rt
pub returns-clause-slews : goal.returns-clause-slews
returns-clause-slews g c = subst (AreSlews c.args.design.now) (sym c.of.ensures)
    (slews_are c.args.design.now c.in_ok-corners.corners.items c.args.pins.starts.items c.args.pins.places.items c.beyond.result c.mode.result c.slew.result c.slew.ensures.source c.slew.ensures.sunk
    c.in_ok-corners.ensures.none c.in_ok-ask_lookups.ensures.refusals c.in_ok-ask_limits.ensures.limits c.in_ok-corners.ensures.states c.requires.starts c.requires.places
    c.beyond.ensures c.mode.ensures c.slew.ensures.slew)
