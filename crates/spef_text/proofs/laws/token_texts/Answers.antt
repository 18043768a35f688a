-- By the cases of the bytes.
use Rattle.spef_text.proofs.TokenTexts.{stand_alone}
use Rattle.spef_text.proofs.laws.token_texts.Goals as goal

pub returns : goal.returns
returns c = record { law = λ bytes texts are. stand_alone are }
