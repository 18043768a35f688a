use Rattle.slew_states.proofs.Corners.{corners_agree}
use Rattle.slew_states.proofs.laws.corners_agree.Goals as goal

-- src/laws.rt
pub returns : goal.returns
returns c = corners_agree
