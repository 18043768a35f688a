-- The law is a lemma.
use Rattle.liberty_groups.proofs.Parting.{one_parting}
use Rattle.liberty_groups.proofs.laws.one_parting.Goals as goal

pub returns : goal.returns
returns c = record { law = one_parting }
