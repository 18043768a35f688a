-- The bytes of a Verilog file (IEEE 1364-2005, lexical conventions), and the tokens that they are parted into.
use Rattle.std.specs.Prelude.{◌≡◌, ℕ, zero, suc, ◌+◌, ◌-◌, ◌*◌, Bool, true, false, ◌&&◌, ◌||◌, ◌==◌, nat_le, min, if◌then◌else◌, List, [], ◌∷◌, length, take, drop, unwrap_or}
use Rattle.edge_io.specs.Bytes.{left_paren, right_paren, star, comma, slash, colon, semicolon, left_bracket, backslash, right_bracket, left_brace, right_brace, begins_with}
use Rattle.token_texts.specs.Blanks.{is_blank}
use Rattle.token_texts.specs.Comments.{line_length, comment_cut, comment_at}
use Rattle.token_texts.specs.Runs.{run_length}
use Rattle.verilog_netlist.specs.Words.{word_kind}
use Rattle.token_texts.specs.declared.spans.Span.{Span}
use Rattle.verilog_netlist.specs.declared.kinds.Kind.{Kind}
use Rattle.verilog_netlist.specs.declared.kinds.Kind.TheVariants.{Name, Number, Constant, LeftParen, RightParen, LeftBracket, RightBracket, LeftBrace, RightBrace, Dot, Comma, Semicolon, Colon, Bad}
use Rattle.token_texts.specs.declared.cuts.Cut.{Cut}
use Rattle.token_texts.specs.declared.cuts.Cut.TheVariants.{Skip, Take}

abbrev pub dollar : ℕ
dollar = 36

abbrev pub apostrophe : ℕ
apostrophe = 39

abbrev pub dot : ℕ
dot = 46

abbrev pub question_mark : ℕ
question_mark = 63

abbrev pub underscore : ℕ
underscore = 95

abbrev pub backquote : ℕ
backquote = 96

abbrev pub is_within : ℕ → ℕ → ℕ → Bool
is_within low high byte = nat_le low byte && nat_le byte high

abbrev pub is_digit : ℕ → Bool
is_digit byte = is_within 48 57 byte

abbrev pub is_letter : ℕ → Bool
is_letter byte = is_within 97 122 byte || is_within 65 90 byte

-- an identifier is a letter or `_`, and then letters, digits, `_` and `$`
abbrev pub begins_name : ℕ → Bool
begins_name byte = is_letter byte || byte == underscore

abbrev pub goes_on_name : ℕ → Bool
goes_on_name byte = is_letter byte || is_digit byte || byte == underscore || byte == dollar

-- an escaped identifier has the bytes 33 to 126
abbrev pub is_visible : ℕ → Bool
is_visible byte = is_within 33 126 byte

-- the digits of a constant: those of any base, and `x X z Z ? _`
abbrev pub is_constant_digit : ℕ → Bool
is_constant_digit byte =
    is_digit byte || is_within 97 102 byte || is_within 65 70 byte
    || byte == 120 || byte == 88 || byte == 122 || byte == 90 || byte == question_mark || byte == underscore

-- `s` or `S`
abbrev pub is_sign : ℕ → Bool
is_sign byte = byte == 115 || byte == 83

-- one of `b B o O d D h H`
abbrev pub is_base : ℕ → Bool
is_base byte = byte == 98 || byte == 66 || byte == 111 || byte == 79 || byte == 100 || byte == 68 || byte == 104 || byte == 72

-- so many bytes and `n` before them, or none where there are none
abbrev pub and_before : ℕ → ℕ → ℕ
and_before n zero = 0
and_before n (suc more) = suc more + n

-- how many bytes at the front are a base and at least one digit of a constant, or 0
abbrev pub based_length : List ℕ → ℕ
based_length [] = 0
based_length (byte ∷ rest) = if is_base byte then and_before 1 (run_length is_constant_digit rest) else 0

-- the same with a sign before them, or none
abbrev pub signed_length : List ℕ → ℕ
signed_length [] = 0
signed_length (byte ∷ rest) = if is_sign byte then and_before 1 (based_length rest) else based_length (byte ∷ rest)

-- behind the digits of a width: how many bytes at the front are the rest of a constant, or 0
unfoldable pub constant_length : List ℕ → ℕ
constant_length [] = 0
constant_length (byte ∷ rest) = if byte == apostrophe then and_before 1 (signed_length rest) else 0

-- bounds of ranges and selects are at most 1,048,575; any number past that counts as one more
abbrev pub past_bounds : ℕ
past_bounds = 1048576

-- the value of decimal digits that follow those of n
abbrev pub value_after : ℕ → List ℕ → ℕ
value_after n [] = n
value_after n (digit ∷ digits) = value_after (n * 10 + (digit - 48)) digits

abbrev pub bound_of : List ℕ → ℕ
bound_of digits = min (value_after 0 digits) past_bounds

-- an identifier, or a reserved word
abbrev pub word_cut : List ℕ → Cut Kind
word_cut bytes = let n = run_length goes_on_name bytes in Take n (word_kind (take n bytes))

-- bytes of which so many are digits, and so many behind them the rest of a constant
abbrev pub number_cut_at : List ℕ → ℕ → ℕ → Cut Kind
number_cut_at bytes digits zero = Take digits (Number (bound_of (take digits bytes)))
number_cut_at bytes digits (suc more) = Take (digits + suc more) Constant

abbrev pub number_cut : List ℕ → Cut Kind
number_cut bytes = let digits = run_length is_digit bytes in number_cut_at bytes digits (constant_length (drop digits bytes))

-- a blank, or the end of the file
abbrev pub ends_escaped : List ℕ → Bool
ends_escaped [] = true
ends_escaped (byte ∷ rest) = is_blank byte

-- behind a backslash, where so many visible bytes follow: an escaped identifier, or a byte that begins no token
abbrev pub escaped_cut_at : List ℕ → ℕ → Cut Kind
escaped_cut_at rest zero = Take 1 Bad
escaped_cut_at rest (suc more) = if ends_escaped (drop (suc more) rest) then Take (suc more + 1) Name else Take 1 Bad

abbrev pub escaped_cut : List ℕ → Cut Kind
escaped_cut rest = escaped_cut_at rest (run_length is_visible rest)

-- behind a slash: a comment, or a byte that begins no token
abbrev pub slash_cut : List ℕ → Cut Kind
slash_cut rest = unwrap_or (comment_at Bad slash rest) (Take 1 Bad)

-- behind a `(`: an attribute, or the mark
abbrev pub paren_cut : List ℕ → Cut Kind
paren_cut rest = if begins_with star rest then comment_cut right_paren Bad (drop 1 rest) else Take 1 LeftParen

-- the other marks, or a byte that begins no token
abbrev pub mark_kind : ℕ → Kind
mark_kind byte =
    if byte == comma then Comma
    else (if byte == right_paren then RightParen
    else (if byte == dot then Dot
    else (if byte == semicolon then Semicolon
    else (if byte == left_bracket then LeftBracket
    else (if byte == right_bracket then RightBracket
    else (if byte == left_brace then LeftBrace
    else (if byte == right_brace then RightBrace
    else (if byte == colon then Colon
    else Bad))))))))

-- What stands at the front of `first ∷ rest`: bytes that are passed over, or a token. A directive goes from a backquote up to
-- the end of its line.
unfoldable pub cut_at : ℕ → List ℕ → Cut Kind
cut_at first rest =
    if is_blank first then Skip 1
    else (if begins_name first then word_cut (first ∷ rest)
    else (if is_digit first then number_cut (first ∷ rest)
    else (if first == backslash then escaped_cut rest
    else (if first == backquote then Skip (line_length rest)
    else (if first == slash then slash_cut rest
    else (if first == left_paren then paren_cut rest
    else Take 1 (mark_kind first)))))))

-- a token: what it is, and the place of its bytes in the file; of an escaped identifier, of those behind the backslash
pub record Lexeme : Type 0 where
  pub kind : Kind
  pub at : Span

abbrev pub span_of : ℕ → ℕ → ℕ → Span
span_of first start n = if first == backslash then record { start = start + 1; len = n - 1 } else record { start = start; len = n }

-- the tokens of the bytes from this place of the file on, in order
pub data AreTokensFrom : ℕ → List ℕ → List Lexeme → Type 0 where
  end : {start : ℕ} → AreTokensFrom start [] []
  skip : {start first : ℕ} {rest : List ℕ} {tokens : List Lexeme} (n : ℕ)
      → cut_at first rest ≡ Skip n
      → AreTokensFrom (start + n) (drop n (first ∷ rest)) tokens
      → AreTokensFrom start (first ∷ rest) tokens
  take_one : {start first : ℕ} {rest : List ℕ} {tokens : List Lexeme} (n : ℕ) (kind : Kind)
      → cut_at first rest ≡ Take n kind
      → AreTokensFrom (start + n) (drop n (first ∷ rest)) tokens
      → AreTokensFrom start (first ∷ rest) (record { kind = kind; at = span_of first start n } ∷ tokens)

-- the tokens of a file
abbrev pub AreTokens : List ℕ → List Lexeme → Type 0
AreTokens bytes tokens = AreTokensFrom 0 bytes tokens

abbrev pub is_bad : Kind → Bool
is_bad Bad = true
is_bad _ = false

-- What can stand as a token, those that are bad aside: at some place of a file some bytes are this one token, and all of it.
pub data IsToken : Lexeme → Type 0 where
  is_token : {kind : Kind} (start first : ℕ) (rest : List ℕ)
      → cut_at first rest ≡ Take (length (first ∷ rest)) kind
      → is_bad kind ≡ false
      → IsToken (record { kind = kind; at = span_of first start (length (first ∷ rest)) })
