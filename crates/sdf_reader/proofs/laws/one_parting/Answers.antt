-- The law is a lemma.
use Rattle.sdf_reader.proofs.Parting.{one_parting}
use Rattle.sdf_reader.proofs.laws.one_parting.Goals as goal

pub returns : goal.returns
returns c = record { law = one_parting }
