use Rattle.slew_order.proofs.Wiring.{wire_function}
use Rattle.slew_order.proofs.laws.wires_are_a_function.Goals as goal

-- src/laws.rt
pub returns : goal.returns
returns c = record { law = wire_function }
