use Rattle.slew_order.proofs.SlewLaws.{deep_slews}
use Rattle.slew_order.proofs.laws.deep_slews_are_the_same.Goals as goal

-- src/laws.rt
pub returns : goal.returns
returns c = record { law = deep_slews }
