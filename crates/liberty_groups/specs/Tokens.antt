-- The bytes of a Liberty file (Liberty User Guide), and the tokens that they are parted into.
use Rattle.std.specs.Prelude.{◌≡◌, ℕ, zero, suc, ◌+◌, ◌-◌, Bool, true, false, not, ◌&&◌, ◌||◌, ◌==◌, nat_le, nat_lt, if◌then◌else◌, List, [], ◌∷◌, length, take, drop, count_by, slice_index, position, Option, Some, None, unwrap_or}
use Rattle.std.specs.List.{list_any}
use Rattle.edge_io.specs.Bytes.{tab, carriage_return, space, quote, left_paren, right_paren, star, comma, slash, colon, semicolon, left_bracket, backslash, right_bracket, left_brace, right_brace, begins_with}
use Rattle.token_texts.specs.Blanks.{is_blank, is_line_end}
use Rattle.token_texts.specs.Comments.{comment_at}
use Rattle.token_texts.specs.Quoted.{quoted_cut}
use Rattle.token_texts.specs.declared.quoted.Escape.TheVariants.{NextQuote}
use Rattle.liberty_groups.specs.declared.scan.Kind.{Kind}
use Rattle.liberty_groups.specs.declared.scan.Kind.TheVariants.{Word, Quoted, LeftParen, RightParen, LeftBrace, RightBrace, Colon, Semicolon, Comma, Bad, OpenQuoted, OpenNote}
use Rattle.token_texts.specs.Cuts.{Part, gap, token, AreTokensOf}
use Rattle.token_texts.specs.declared.cuts.Cut.{Cut}
use Rattle.token_texts.specs.declared.cuts.Cut.TheVariants.{Skip, Take}

-- the bytes that may stand in a continuation between its backslash and its line end: 9, 13 and 32; this test is of all others
abbrev pub ends_gap : ℕ → Bool
ends_gap byte = not (byte == tab || byte == carriage_return || byte == space)

-- A backslash with `rest` behind it, in which the first byte that is no gap is at this place: how many bytes of `rest` belong to the
-- continuation, or 0, where there is none.
abbrev pub continued_to : List ℕ → Option ℕ → ℕ
continued_to rest None = 0
continued_to rest (Some place) = if is_line_end (slice_index rest place) then place + 1 else 0

abbrev pub continuation : List ℕ → ℕ
continuation rest = continued_to rest (position ends_gap rest)

-- a backslash that is dropped: it makes the quote behind it a part of the text, or begins a continuation
abbrev pub is_dropped : ℕ → List ℕ → Bool
is_dropped byte rest = byte == backslash && (begins_with quote rest || nat_lt 0 (continuation rest))

-- What the bytes between the quotes of a text say: continuations are dropped, and so is a backslash in front of a quote. Every other byte
-- stands for itself. The first number is how many bytes of a continuation are still to be dropped.
unfoldable pub meaning_behind : ℕ → List ℕ → List ℕ
meaning_behind more [] = []
meaning_behind (suc more) (byte ∷ rest) = meaning_behind more rest
meaning_behind zero (byte ∷ rest) = if is_dropped byte rest then meaning_behind (continuation rest) rest else byte
    ∷ meaning_behind zero rest

abbrev pub meaning : List ℕ → List ℕ
meaning bytes = meaning_behind 0 bytes

-- the kind of a mark, `( ) { } : ; ,`
abbrev pub mark_of : ℕ → Option Kind
mark_of byte =
    if byte == left_paren then Some LeftParen
    else (if byte == right_paren then Some RightParen
    else (if byte == left_brace then Some LeftBrace
    else (if byte == right_brace then Some RightBrace
    else (if byte == colon then Some Colon
    else (if byte == semicolon then Some Semicolon
    else (if byte == comma then Some Comma
    else None))))))

abbrev pub is_mark : ℕ → Bool
is_mark byte =
    byte == left_paren || byte == right_paren || byte == left_brace || byte == right_brace || byte == colon
    || byte == semicolon || byte == comma

-- the bytes 33 to 126 but a quote and a backslash
abbrev pub is_plain : ℕ → Bool
is_plain byte = nat_le 33 byte && nat_le byte 126 && not (byte == quote) && not (byte == backslash)

-- a byte with `rest` behind it that begins a comment
abbrev pub begins_comment : ℕ → List ℕ → Bool
begins_comment byte rest = byte == slash && (begins_with star rest || begins_with slash rest)

-- a byte with `rest` behind it that a word goes on with, where so many `[` of the word are not closed: inside them a colon belongs to the
-- word
abbrev pub goes_on : ℕ → ℕ → List ℕ → Bool
goes_on opened byte rest = is_plain byte && not (begins_comment byte rest) && (not (is_mark byte) || (byte == colon && nat_lt 0 opened))

abbrev pub opened_behind : ℕ → ℕ → ℕ
opened_behind opened byte = if byte == left_bracket then opened + 1 else (if byte == right_bracket then opened - 1 else opened)

-- how many bytes the longest word has, or the longest rest of a word in which so many `[` are not closed
unfoldable pub word_length : ℕ → List ℕ → ℕ
word_length opened [] = 0
word_length opened (byte ∷ rest) = if goes_on opened byte rest then word_length (opened_behind opened byte) rest + 1 else 0

-- A backslash with `rest` behind it, of which so many bytes belong to a continuation.
abbrev pub backslash_cut : List ℕ → ℕ → Cut Kind
backslash_cut rest length_of = if nat_lt 0 length_of then Skip (length_of + 1) else Take (length rest + 1) Bad

abbrev pub mark_or_word : ℕ → List ℕ → Option Kind → Cut Kind
mark_or_word first rest (Some kind) = Take 1 kind
mark_or_word first rest None = if is_plain first then Take (word_length 0 (first ∷ rest)) Word else Take (length rest + 1) Bad

-- What stands at the front of `first ∷ rest`: bytes that are passed over, or a token. A quote right behind a backslash does not end a
-- text. What no text of the grammar has is a token that takes all.
unfoldable pub cut_at : ℕ → List ℕ → Cut Kind
cut_at first rest =
    if is_blank first then Skip 1
    else (if first == quote then quoted_cut NextQuote Quoted OpenQuoted rest
    else (if first == backslash then backslash_cut rest (continuation rest)
    else unwrap_or (comment_at OpenNote first rest) (mark_or_word first rest (mark_of first))))

-- what no text of the grammar has: a byte that begins no token, and a text and a comment that do not end
abbrev pub is_broken : Kind → Bool
is_broken Bad = true
is_broken OpenQuoted = true
is_broken OpenNote = true
is_broken _ = false

-- What a token of this kind and of these bytes says: a text what stands between its quotes, a word itself, a mark nothing.
abbrev pub said_by : Kind → List ℕ → List ℕ
said_by Word bytes = bytes
said_by Quoted bytes = meaning (take (length bytes - 2) (drop 1 bytes))
said_by _ bytes = []

-- A token: what it is, what it says, whether a line end that is no continuation's stands between it and the token before, and the place of
-- its first byte in the file.
pub record Lexeme : Type 0 where
  pub kind : Kind
  pub bytes : List ℕ
  pub fresh : Bool
  pub start : ℕ

-- a line end that is no continuation's stands in bytes that are passed over
abbrev pub breaks : List ℕ → Bool
breaks passed = not (begins_with backslash passed) && list_any is_line_end passed

-- the tokens among parts that begin at this place of the file, where a line end has been passed since the last token, or not
abbrev pub tokens_from : ℕ → Bool → List (Part Kind) → List Lexeme
tokens_from start fresh [] = []
tokens_from start fresh (gap bytes ∷ parts) = tokens_from (start + length bytes) (fresh || breaks bytes) parts
tokens_from start fresh (token t ∷ parts) =
    record { kind = t.kind; bytes = said_by t.kind t.bytes; fresh = fresh; start = start }
    ∷ tokens_from (start + length t.bytes) false parts

abbrev pub tokens_of : List (Part Kind) → List Lexeme
tokens_of parts = tokens_from 0 false parts

-- the tokens of a file
abbrev pub AreTokens : List ℕ → List Lexeme → Type 0
AreTokens bytes tokens = AreTokensOf cut_at tokens_of bytes tokens

-- What can stand as a token, those that are broken aside: some bytes are this one token, and all of it.
pub data IsToken : Lexeme → Type 0 where
  is_token : {token : Lexeme} (first : ℕ) (rest : List ℕ)
      → cut_at first rest ≡ Take (length (first ∷ rest)) token.kind
      → is_broken token.kind ≡ false
      → token.bytes ≡ said_by token.kind (first ∷ rest)
      → IsToken token

-- the line of a place, from 1: the count of line ends before it, and one
abbrev pub line_at : List ℕ → ℕ → ℕ
line_at bytes place = count_by is_line_end (take place bytes) + 1
