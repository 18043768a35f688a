use Rattle.slew_order.proofs.SlewLaws.{worst_at_pins}
use Rattle.slew_order.proofs.laws.worst_at_pins.Goals as goal

-- src/laws.rt
pub returns : goal.returns
returns c = record { law = worst_at_pins }
