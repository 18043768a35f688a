-- The law is a lemma.
use Rattle.liberty_groups.proofs.SoFar.{one_tree}
use Rattle.liberty_groups.proofs.laws.one_tree.Goals as goal

pub returns : goal.returns
returns c = record { law = one_tree }
