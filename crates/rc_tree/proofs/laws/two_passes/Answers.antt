use Rattle.rc_tree.proofs.PairSums.{two_pass_law}
use Rattle.rc_tree.proofs.laws.two_passes.Goals as goal

-- src/laws.rt
pub returns : goal.returns
returns c = record { net = two_pass_law; tree = two_pass_law }
