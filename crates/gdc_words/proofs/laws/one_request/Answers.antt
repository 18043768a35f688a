use Rattle.gdc_words.proofs.Pairs.{one_request}
use Rattle.gdc_words.proofs.laws.one_request.Goals as goal

-- src/laws.rt
pub returns : goal.returns
returns c = record { law = one_request }
