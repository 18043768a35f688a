use Rattle.spef_text.proofs.Answering.{one_spef}
use Rattle.spef_text.proofs.laws.one_spef.Goals as goal

pub returns : goal.returns
returns c = record { law = one_spef }
