-- Why a token cannot stand where it stands.
use Rattle.std.specs.Prelude.{◌≡◌, ℕ, ◌-◌, List, take, Option, Some, None, false}
use Rattle.std.specs.List.{slice_get}
use Rattle.token_fronts.specs.DeadToken.{Begins, IsDeadToken}
use Rattle.token_fronts.specs.Reading.{Says}
use Rattle.sdf_reader.specs.Tokens.{Lexeme, AreTokens, IsToken, is_broken}
use Rattle.sdf_reader.specs.Rows.{no_value}
use Rattle.sdf_reader.specs.Grammar.{IsSdf, IsSdfBy}
use Rattle.sdf_reader.specs.declared.rows.Value.{Value}
use Rattle.sdf_reader.specs.declared.rows.SdfRow.{SdfRow}
use Rattle.sdf_reader.specs.declared.timescales.Timescale.{Timescale}
use Rattle.sdf_reader.specs.declared.scan.Kind.TheVariants.{Bad, OpenQuoted, OpenNote}
use Rattle.sdf_reader.specs.declared.ends.SdfCause.{SdfCause}
use Rattle.sdf_reader.specs.declared.ends.SdfCause.TheVariants.{BadByte, OpenText, OpenComment, Unexpected, EndInside, BadNumber}

-- the token of this number, which counts from 1
abbrev pub token_at : List Lexeme → ℕ → Option Lexeme
token_at tokens number = slice_get tokens (number - 1)

-- any word stands for a number
abbrev pub IsAnyWord : Timescale → List ℕ → Value → Type 0
IsAnyWord scale word value = value ≡ no_value

-- the tokens up to this number begin a file in which any word may stand for a number
abbrev pub IsNumberPlace : List Lexeme → ℕ → Type 0
IsNumberPlace tokens number = Begins IsToken (IsSdfBy IsAnyWord) (take number tokens)

-- the cause of the dead token of this number
pub data IsCause (tokens : List Lexeme) : ℕ → SdfCause → Type 0 where
  bad_byte : {number : ℕ} {token : Lexeme} → token_at tokens number ≡ Some token → token.kind ≡ Bad → IsCause tokens number BadByte
  open_text : {number : ℕ} {token : Lexeme} → token_at tokens number ≡ Some token → token.kind ≡ OpenQuoted → IsCause tokens number OpenText
  open_comment : {number : ℕ} {token : Lexeme} → token_at tokens number ≡ Some token → token.kind ≡ OpenNote
      → IsCause tokens number OpenComment
  end_inside : {number : ℕ} → token_at tokens number ≡ None → IsCause tokens number EndInside
  bad_number : {number : ℕ} {token : Lexeme} → token_at tokens number ≡ Some token → IsNumberPlace tokens number
      → IsCause tokens number BadNumber
  unexpected : {number : ℕ} {token : Lexeme} → token_at tokens number ≡ Some token → is_broken token.kind ≡ false
      → (IsNumberPlace tokens number → ⊥) → IsCause tokens number Unexpected

-- the bytes are no SDF file, and this is their dead token, with its cause
pub record IsFault (bytes : List ℕ) (number : ℕ) (cause : SdfCause) : Type 0 where
  pub tokens : List Lexeme
  pub parted : AreTokens bytes tokens
  pub dead : IsDeadToken IsToken IsSdf tokens number
  pub because : IsCause tokens number cause
  pub nothing : (rows : List SdfRow) → Says AreTokens IsToken IsSdf bytes rows → ⊥
