use Rattle.std.proofs.Common.{ap, length}
use Rattle.slew_order.proofs.Settling.{nets_driven}
use Rattle.slew_order.proofs.net_states.settle_at.Goals as goal

-- src/net_states.rt
pub settle-requires-clause-nets : goal.settle-requires-clause-nets
settle-requires-clause-nets g c = nets_driven c.args.design.now.netlist c.flat.result.now _ (ap length c.requires.drivers) c.flat.ensures.nets
