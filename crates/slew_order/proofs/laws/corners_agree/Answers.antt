use Rattle.slew_order.proofs.SlewLaws.{agreeing_corners}
use Rattle.slew_order.proofs.laws.corners_agree.Goals as goal

-- src/laws.rt
pub returns : goal.returns
returns c = record { law = agreeing_corners }
