use Rattle.rc_tree.proofs.NetShapes.{one_shape}
use Rattle.rc_tree.proofs.laws.one_shape.Goals as goal

-- src/laws.rt
pub returns : goal.returns
returns c = record { law = one_shape }
