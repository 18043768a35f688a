-- Bytes are parted into tokens in one way.
use Rattle.std.proofs.Common.{◌≡◌, ℕ, List}
use Rattle.token_texts.specs.CutLemmas.{one_parting}
use Rattle.spef_text.specs.Tokens.{cut_at, texts_of, AreTokens}

-- the tokens of given bytes are one list
pub one_tokens : {bytes : List ℕ} {some other : List (List ℕ)} → AreTokens bytes some → AreTokens bytes other → some ≡ other
one_tokens {bytes} {some} {other} are others = one_parting cut_at texts_of bytes some other are others
