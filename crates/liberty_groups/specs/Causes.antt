-- Why a token cannot stand where it stands, and its line.
use Rattle.std.specs.Prelude.{◌≡◌, ℕ, ◌-◌, ◌<◌, List, length, take, Option, Some, None, false}
use Rattle.std.specs.List.{slice_get}
use Rattle.token_fronts.specs.DeadToken.{Begins, IsDeadToken}
use Rattle.token_fronts.specs.Reading.{Says}
use Rattle.liberty_groups.specs.Tokens.{Lexeme, AreTokens, IsToken, is_broken, line_at}
use Rattle.liberty_groups.specs.Groups.{Group}
use Rattle.liberty_groups.specs.Grammar.{IsLiberty, IsLibertyTo}
use Rattle.liberty_groups.specs.declared.scan.Kind.TheVariants.{LeftBrace, Bad, OpenQuoted, OpenNote}
use Rattle.liberty_groups.specs.declared.faults.Cause.{Cause}
use Rattle.liberty_groups.specs.declared.faults.Cause.TheVariants.{BadByte, OpenText, OpenComment, Unexpected, EndInside, TooDeep, NotLibrary}
use Rattle.liberty_groups.specs.declared.faults.SyntaxFault.{SyntaxFault}

-- the token of this number, which counts from 1
abbrev pub token_at : List Lexeme → ℕ → Option Lexeme
token_at tokens number = slice_get tokens (number - 1)

-- the tokens up to this number begin a file in which seventeen groups stand in one another
abbrev pub IsOneDeeper : List Lexeme → ℕ → Type 0
IsOneDeeper tokens number = Begins IsToken (IsLibertyTo 17) (take number tokens)

-- the cause of the dead token of this number
pub data IsCause (tokens : List Lexeme) : ℕ → Cause → Type 0 where
  bad_byte : {number : ℕ} {token : Lexeme} → token_at tokens number ≡ Some token → token.kind ≡ Bad → IsCause tokens number BadByte
  open_text : {number : ℕ} {token : Lexeme} → token_at tokens number ≡ Some token → token.kind ≡ OpenQuoted → IsCause tokens number OpenText
  open_comment : {number : ℕ} {token : Lexeme} → token_at tokens number ≡ Some token → token.kind ≡ OpenNote
      → IsCause tokens number OpenComment
  end_inside : {number : ℕ} → token_at tokens number ≡ None → IsCause tokens number EndInside
  not_library : {number : ℕ} {token : Lexeme} → number ≡ 1 → token_at tokens number ≡ Some token → is_broken token.kind ≡ false
      → IsCause tokens number NotLibrary
  too_deep : {number : ℕ} {token : Lexeme} → token_at tokens number ≡ Some token → token.kind ≡ LeftBrace → IsOneDeeper tokens number
      → IsCause tokens number TooDeep
  unexpected : {number : ℕ} {token : Lexeme} → 1 < number → token_at tokens number ≡ Some token → is_broken token.kind ≡ false
      → (IsOneDeeper tokens number → ⊥) → IsCause tokens number Unexpected

-- the place of a token's first byte, or of the end of the file
abbrev pub place_of : List ℕ → Option Lexeme → ℕ
place_of bytes (Some token) = token.start
place_of bytes None = length bytes

-- the bytes are no Liberty file, and this is its fault: the dead token, the line of its first byte, or of the end of the file, and the
-- cause
pub record IsFault (bytes : List ℕ) (fault : SyntaxFault) : Type 0 where
  pub tokens : List Lexeme
  pub parted : AreTokens bytes tokens
  pub dead : IsDeadToken IsToken IsLiberty tokens fault.token
  pub line : fault.line ≡ line_at bytes (place_of bytes (token_at tokens fault.token))
  pub cause : IsCause tokens fault.token fault.cause
  pub nothing : (tree : Group) → Says AreTokens IsToken IsLiberty bytes tree → ⊥
