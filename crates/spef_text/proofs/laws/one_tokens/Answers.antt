-- By the parts of the bytes.
use Rattle.spef_text.proofs.Scanning.{one_tokens}
use Rattle.spef_text.proofs.laws.one_tokens.Goals as goal

pub returns : goal.returns
returns c = record { law = λ bytes some other are others. one_tokens are others }
