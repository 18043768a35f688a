-- The bytes of an SDF file (IEEE 1497-2001), and the tokens that they are parted into.
use Rattle.std.specs.Prelude.{ℕ, zero, suc, ◌-◌, Bool, true, false, not, ◌&&◌, ◌||◌, ◌==◌, nat_le, if◌then◌else◌, List, [], ◌∷◌, length, take, drop, unwrap_or}
use Rattle.edge_io.specs.Bytes.{quote, left_paren, right_paren, backslash}
use Rattle.token_texts.specs.Blanks.{is_blank}
use Rattle.token_texts.specs.Comments.{comment_at}
use Rattle.token_texts.specs.Quoted.{takes, quoted_cut}
use Rattle.token_texts.specs.Runs.{escaped_run_length}
use Rattle.token_texts.specs.declared.quoted.Escape.TheVariants.{NextByte}
use Rattle.sdf_reader.specs.declared.scan.Kind.{Kind}
use Rattle.sdf_reader.specs.declared.scan.Kind.TheVariants.{LeftParen, RightParen, Word, Quoted, Bad, OpenQuoted, OpenNote}
use Rattle.token_texts.specs.Cuts as cuts
use Rattle.token_texts.specs.declared.cuts.Cut.{Cut}
use Rattle.token_texts.specs.declared.cuts.Cut.TheVariants.{Skip, Take}

-- A byte that a word goes on with: from 33 to 255, but no parenthesis, quote or backslash.
abbrev pub is_plain : ℕ → Bool
is_plain byte = nat_le 33 byte && not (byte == left_paren || byte == right_paren || byte == quote || byte == backslash)

-- how many bytes the longest word has, in which a backslash takes the next byte with it, whatever that is; 0 where none begins
abbrev pub word_length : List ℕ → ℕ
word_length bytes = escaped_run_length is_plain bytes

-- Bytes of which a word takes so many: that word, or a byte that begins no token. A control byte does not, and neither does a backslash at
-- the end.
abbrev pub word_cut : List ℕ → ℕ → Cut Kind
word_cut bytes zero = Take (length bytes) Bad
word_cut bytes (suc more) = Take (suc more) Word

-- What stands at the front of `first ∷ rest`: bytes that are passed over, or a token. In a text a backslash takes the next byte with it.
-- What no text of the grammar has is a token that takes all.
unfoldable pub cut_at : ℕ → List ℕ → Cut Kind
cut_at first rest =
    if is_blank first then Skip 1
    else (if first == left_paren then Take 1 LeftParen
    else (if first == right_paren then Take 1 RightParen
    else (if first == quote then quoted_cut NextByte Quoted OpenQuoted rest
    else unwrap_or (comment_at OpenNote first rest) (word_cut (first ∷ rest) (word_length (first ∷ rest))))))

-- what no text of the grammar has: a byte that begins no token, and a text and a comment that do not end
abbrev pub is_broken : Kind → Bool
is_broken Bad = true
is_broken OpenQuoted = true
is_broken OpenNote = true
is_broken _ = false

-- a token: what it is, and its bytes
abbrev pub Lexeme : Type 0
Lexeme = cuts.Lexeme Kind

-- the tokens of the bytes, in order
abbrev pub AreTokens : List ℕ → List Lexeme → Type 0
AreTokens bytes tokens = cuts.AreTokens cut_at bytes tokens

-- what can stand as a token, those that are broken aside
abbrev pub IsToken : Lexeme → Type 0
IsToken token = cuts.IsToken cut_at is_broken token

-- what bytes say in which a backslash makes the next byte stand for itself; `taken` says that one stands before them
unfoldable pub said_behind : Bool → List ℕ → List ℕ
said_behind taken [] = []
said_behind taken (byte ∷ rest) = if takes NextByte byte taken then said_behind true rest else byte ∷ said_behind false rest

-- what a text says that is given with its quotes
abbrev pub meaning : List ℕ → List ℕ
meaning bytes = said_behind false (take (length bytes - 2) (drop 1 bytes))
