use Rattle.slew_order.proofs.PinsAgree.{no_pin_stuck, pins_agree}
use Rattle.slew_order.proofs.laws.pins_agree.Goals as goal

-- src/laws.rt
pub returns-clause-free : goal.returns-clause-free
returns-clause-free c = no_pin_stuck

pub returns-clause-agree : goal.returns-clause-agree
returns-clause-agree c = pins_agree
