-- Bytes are parted into tokens in one way.
use Rattle.std.proofs.Common.{◌≡◌, ℕ, List}
use Rattle.token_texts.specs.CutLemmas as cuts
use Rattle.liberty_groups.specs.Tokens.{Lexeme, cut_at, tokens_of, AreTokens}

pub one_parting : (bytes : List ℕ) (some other : List Lexeme) → AreTokens bytes some → AreTokens bytes other → some ≡ other
one_parting bytes some other are others = cuts.one_parting cut_at tokens_of bytes some other are others
