use Rattle.slew_order.proofs.LiveArcs.{live_delays}
use Rattle.slew_order.proofs.laws.live_arcs_have_delays.Goals as goal

-- src/laws.rt
pub returns : goal.returns
returns c = record { law = live_delays }
