-- The law is a lemma.
use Rattle.sdf_reader.proofs.OneFault.{one_fault}
use Rattle.sdf_reader.proofs.laws.one_fault.Goals as goal

pub returns : goal.returns
returns c = record { law = one_fault }
