use Rattle.slew_order.proofs.LookupValues.{half_up_is}
use Rattle.slew_order.proofs.laws.half_up_is_rounding.Goals as goal

-- src/laws.rt
pub returns : goal.returns
returns c = record { law = half_up_is }
