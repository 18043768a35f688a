use Rattle.spef_text.proofs.Answering.{one_dead}
use Rattle.spef_text.proofs.laws.one_dead_token.Goals as goal

pub returns : goal.returns
returns c = record { law = one_dead }
