use Rattle.rc_tree.proofs.ElmoreSums.{one_elmore}
use Rattle.rc_tree.proofs.laws.one_elmore.Goals as goal

-- src/laws.rt
pub returns : goal.returns
returns c = record { net = one_elmore; tree = one_elmore }
