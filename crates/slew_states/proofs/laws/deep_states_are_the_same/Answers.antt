use Rattle.slew_states.proofs.Depths.{settled_depth}
use Rattle.slew_states.proofs.laws.deep_states_are_the_same.Goals as goal

-- src/laws.rt
pub returns : goal.returns
returns c = settled_depth
