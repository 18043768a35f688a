-- The bytes of a SPEF file (IEEE 1481), and the tokens that they are parted into.
use Rattle.std.specs.Prelude.{◌≡◌, ℕ, ◌+◌, Bool, true, false, not, ◌&&◌, ◌||◌, ◌==◌, if◌then◌else◌, List, [], ◌∷◌, length, drop, slice_index, position, Option, Some, None}
use Rattle.edge_io.specs.Bytes.{quote, star, slash, backslash, begins_with}
use Rattle.token_texts.specs.Blanks.{is_blank, is_line_end}
use Rattle.token_texts.specs.Comments.{line_length, comment_cut}
use Rattle.token_texts.specs.Runs.{escaped_run_length}
use Rattle.token_texts.specs.Cuts.{Part, gap, token, AreTokensOf}
use Rattle.token_texts.specs.declared.cuts.Cut.{Cut}
use Rattle.token_texts.specs.declared.cuts.Cut.TheVariants.{Skip, Take}
use Rattle.spef_text.specs.declared.scan.Kind.{Kind}
use Rattle.spef_text.specs.declared.scan.Kind.TheVariants.{Whole, Broken}

-- `"`
abbrev pub is_quote : ℕ → Bool
is_quote byte = byte == quote

abbrev pub is_backslash : ℕ → Bool
is_backslash byte = byte == backslash

abbrev pub is_nothing : List ℕ → Bool
is_nothing [] = true
is_nothing (first ∷ rest) = false

-- the first quote or line end
abbrev pub ends_text : ℕ → Bool
ends_text byte = is_quote byte || is_line_end byte

-- A quote with `rest` behind it: a text goes to the next quote of its line. Where the line or the file ends before one, the text is open
-- and takes all.
abbrev pub text_cut : List ℕ → Option ℕ → Cut Kind
text_cut rest None = Take (length rest + 1) Broken
text_cut rest (Some place) = if is_quote (slice_index rest place) then Take (place + 2) Whole else Take (length rest + 1) Broken

-- a byte that a run goes on with
abbrev pub is_solid : ℕ → Bool
is_solid byte = not (is_blank byte)

-- how many bytes the longest run has that holds no blank, where a backslash takes the next byte with it, whatever that is
abbrev pub run_length : List ℕ → ℕ
run_length bytes = escaped_run_length is_solid bytes

-- What stands at the front of `first ∷ rest`: bytes that are passed over, or a token. What no text of the grammar has, an open text, an
-- open comment, and a backslash that has no byte to take, is a token that takes all.
unfoldable pub cut_at : ℕ → List ℕ → Cut Kind
cut_at first rest =
    if is_blank first then Skip 1
    else (if is_quote first then text_cut rest (position ends_text rest)
    else (if first == slash && begins_with slash rest then Skip (line_length rest)
    else (if first == slash && begins_with star rest then comment_cut slash Broken (drop 1 rest)
    else (if is_backslash first && is_nothing rest then Take (length rest + 1) Broken
    else Take (run_length (first ∷ rest)) Whole))))

-- the tokens among parts, as their bytes
abbrev pub texts_of : List (Part Kind) → List (List ℕ)
texts_of [] = []
texts_of (gap bytes ∷ parts) = texts_of parts
texts_of (token lexeme ∷ parts) = lexeme.bytes ∷ texts_of parts

-- The tokens of the bytes, in order, as their bytes. What is broken is the last token, since it takes all that is left.
abbrev pub AreTokens : List ℕ → List (List ℕ) → Type 0
AreTokens bytes texts = AreTokensOf cut_at texts_of bytes texts

abbrev pub is_broken_cut : Cut Kind → Bool
is_broken_cut (Skip n) = false
is_broken_cut (Take n Whole) = false
is_broken_cut (Take n Broken) = true

-- a token that is an open text, an open comment or a backslash at the end of the file
unfoldable pub is_broken : List ℕ → Bool
is_broken [] = false
is_broken (first ∷ rest) = is_broken_cut (cut_at first rest)

-- what can stand as a token, those that are broken aside: a text that is the first token of itself, and the whole of it
abbrev pub IsToken : List ℕ → Type 0
IsToken [] = ⊥
IsToken (first ∷ rest) = cut_at first rest ≡ Take (length (first ∷ rest)) Whole
