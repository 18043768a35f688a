-- The law is a lemma.
use Rattle.sdf_reader.proofs.SoFar.{one_rows}
use Rattle.sdf_reader.proofs.laws.one_reading.Goals as goal

pub returns : goal.returns
returns c = record { law = one_rows }
