-- What each byte shows behind others that have led a scan to a place.
use Rattle.std.specs.Prelude.{ℕ, ◌+◌, ◌-◌, ◌==◌, false, not, ◌&&◌, ◌||◌, [], Option, Some, None, if◌then◌else◌}
use Rattle.edge_io.specs.Bytes.{quote, star, slash, backslash}
use Rattle.token_texts.specs.Blanks.{is_blank, is_line_end}
use Rattle.token_texts.specs.Quoted.{takes}
use Rattle.token_texts.specs.declared.quoted.Escape.TheVariants.{NextQuote}
use Rattle.token_texts.specs.declared.cuts.Cut.TheVariants.{Skip, Take}
use Rattle.liberty_groups.specs.Tokens.{is_plain, mark_of, goes_on, opened_behind, ends_gap}
use Rattle.liberty_groups.specs.declared.scan.Kind.{Kind}
use Rattle.liberty_groups.specs.declared.scan.Kind.TheVariants as kind
use Rattle.liberty_groups.specs.declared.places.Place.{Place}
use Rattle.liberty_groups.specs.declared.places.Place.TheVariants.{Word, SlashInWord, Slash, Quoted, LineComment, BlockComment, Backslash}
use Rattle.liberty_groups.specs.declared.places.Scanned.{Scanned}
use Rattle.liberty_groups.specs.declared.places.Scanned.TheVariants.{Ended, Bad, Begun}

abbrev pub word_begun : ℕ → Option Kind → Scanned
word_begun first (Some k) = Ended (Take 1 k)
word_begun first None = if is_plain first then Begun (Word (opened_behind 0 first)) else Bad

-- the first byte
abbrev pub begun : ℕ → Scanned
begun first =
    if is_blank first then Ended (Skip 1)
    else (if first == quote then Begun (Quoted false)
    else (if first == backslash then Begun Backslash
    else (if first == slash then Begun Slash
    else word_begun first (mark_of first))))

-- a byte behind `count` others, which are a word so far
abbrev pub word_behind : ℕ → ℕ → ℕ → Scanned
word_behind opened count byte =
    if goes_on opened byte [] then (if byte == slash then Begun (SlashInWord opened) else Begun (Word (opened_behind opened byte)))
    else Ended (Take count kind.Word)

-- a byte behind `count` others
abbrev pub behind : Place → ℕ → ℕ → Scanned
behind (Word opened) count byte = word_behind opened count byte
behind (SlashInWord opened) count byte =
    if byte == slash || byte == star then Ended (Take (count - 1) kind.Word) else word_behind opened count byte
behind Slash count byte =
    if byte == slash then Begun LineComment
    else (if byte == star then Begun (BlockComment false)
    else word_behind 0 count byte)
behind (Quoted taken) count byte =
    if byte == quote && not taken then Ended (Take (count + 1) kind.Quoted) else Begun (Quoted (takes NextQuote byte taken))
behind LineComment count byte = if is_line_end byte then Ended (Skip count) else Begun LineComment
behind (BlockComment starred) count byte =
    if byte == slash && starred then Ended (Skip (count + 1)) else Begun (BlockComment (byte == star))
behind Backslash count byte = if ends_gap byte then (if is_line_end byte then Ended (Skip (count + 1)) else Bad) else Begun Backslash
