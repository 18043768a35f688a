-- Bytes are parted into tokens in one way.
use Rattle.std.proofs.Common.{◌≡◌, ℕ, List}
use Rattle.token_texts.specs.Cuts.{lexemes}
use Rattle.token_texts.specs.CutLemmas as cuts
use Rattle.sdf_reader.specs.Tokens.{Lexeme, cut_at, AreTokens}

pub one_parting : (bytes : List ℕ) (some other : List Lexeme) → AreTokens bytes some → AreTokens bytes other → some ≡ other
one_parting bytes some other are others = cuts.one_parting cut_at lexemes bytes some other are others
