-- Bytes that begin a token or a comment and do not end it: what they are with more bytes behind them, by where their scan stands.
use Rattle.std.specs.Prelude.{ℕ, ◌+◌, ◌-◌, ◌≤◌, ⊤, true, false, List, ◌∷◌, length, drop, slice_index, position, Option, Some, None, if◌then◌else◌, unwrap_or}
use Rattle.edge_io.specs.Bytes.{star, slash, begins_with}
use Rattle.token_texts.specs.Blanks.{is_line_end}
use Rattle.token_texts.specs.Comments.{pair_place}
use Rattle.token_texts.specs.Quoted.{quote_end}
use Rattle.token_texts.specs.declared.quoted.Escape.TheVariants.{NextQuote}
use Rattle.token_texts.specs.declared.cuts.Cut.{Cut}
use Rattle.token_texts.specs.declared.cuts.Cut.TheVariants.{Skip, Take}
use Rattle.liberty_groups.specs.Tokens.{begins_comment, word_length, ends_gap}
use Rattle.liberty_groups.specs.declared.scan.Kind.{Kind}
use Rattle.liberty_groups.specs.declared.scan.Kind.TheVariants as kind
use Rattle.liberty_groups.specs.declared.places.Place.{Place}
use Rattle.liberty_groups.specs.declared.places.Place.TheVariants.{Word, SlashInWord, Slash, Quoted, LineComment, BlockComment, Backslash}
use Rattle.liberty_groups.specs.declared.places.Scanned.{Scanned}
use Rattle.liberty_groups.specs.declared.places.Scanned.TheVariants.{Ended, Bad, Begun}

-- `count` bytes have been scanned and `more` come. A word goes on in them.
abbrev pub word_to : ℕ → ℕ → List ℕ → Cut Kind
word_to count opened more = Take (count + word_length opened more) kind.Word

-- a comment that the end of its line ends
abbrev pub line_to : ℕ → List ℕ → Cut Kind
line_to count more = Skip (count + unwrap_or (position is_line_end more) (length more))

-- a comment that ends with the star and the slash at this place, if they come
abbrev pub block_to : ℕ → List ℕ → Option ℕ → Cut Kind
block_to count more None = Take (count + length more) kind.OpenNote
block_to count more (Some place) = Skip (count + place + 2)

-- a text that ends with the quote at this place, if it comes
abbrev pub text_to : ℕ → List ℕ → Option ℕ → Cut Kind
text_to count more None = Take (count + length more) kind.OpenQuoted
text_to count more (Some place) = Take (count + place + 1) kind.Quoted

-- a continuation, where the first byte that is no gap, at this place, is a line end
abbrev pub gap_to : ℕ → List ℕ → Option ℕ → Cut Kind
gap_to count more None = Take (count + length more) kind.Bad
gap_to count more (Some place) =
    if is_line_end (slice_index more place) then Skip (count + place + 1) else Take (count + length more) kind.Bad

-- What stands at the front of `count` bytes that have led to this place and of `more` behind them. Behind a star the comment can end with
-- the first byte that comes, so that the star is read again.
abbrev pub resumed : Place → ℕ → List ℕ → Cut Kind
resumed (Word opened) count more = word_to count opened more
resumed (SlashInWord opened) count more = if begins_comment slash more then Take (count - 1) kind.Word else word_to count opened more
resumed Slash count more =
    if begins_with slash more then line_to count more
    else (if begins_with star more then block_to (count + 1) (drop 1 more) (pair_place star slash (drop 1 more))
    else word_to count 0 more)
resumed (Quoted taken) count more = text_to count more (quote_end NextQuote taken more)
resumed LineComment count more = line_to count more
resumed (BlockComment false) count more = block_to count more (pair_place star slash more)
resumed (BlockComment true) count more = block_to (count - 1) (star ∷ more) (pair_place star slash (star ∷ more))
resumed Backslash count more = gap_to count more (position ends_gap more)

-- the same by what a scan has shown
abbrev pub scanned : Scanned → ℕ → List ℕ → Cut Kind
scanned (Ended cut) count more = cut
scanned Bad count more = Take (count + length more) kind.Bad
scanned (Begun place) count more = resumed place count more

-- so many bytes, passed over or a token of this kind
abbrev pub whole : ℕ → Option Kind → Cut Kind
whole count None = Skip count
whole count (Some k) = Take count k

-- what bytes are that have led to this place, where nothing comes behind them
abbrev pub ended : Place → Option Kind
ended (Word opened) = Some kind.Word
ended (SlashInWord opened) = Some kind.Word
ended Slash = Some kind.Word
ended (Quoted taken) = Some kind.OpenQuoted
ended LineComment = None
ended (BlockComment starred) = Some kind.OpenNote
ended Backslash = Some kind.Bad

-- no more brackets are open than there are bytes
abbrev pub IsOpenWithin : ℕ → Scanned → Type 0
IsOpenWithin count (Begun (Word opened)) = opened ≤ count
IsOpenWithin count (Begun (SlashInWord opened)) = opened ≤ count
IsOpenWithin count _ = ⊤

-- how many bytes a cut has
abbrev pub size_of : Cut Kind → ℕ
size_of (Skip count) = count
size_of (Take count k) = count
