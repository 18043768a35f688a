-- How much of some bytes stands at their front.
use Rattle.std.specs.Prelude.{ℕ, ◌+◌, ◌-◌, ◌==◌, Bool, not, ◌&&◌, List, length, get_or, nat_lt, if◌then◌else◌}
use Rattle.edge_io.specs.Bytes.{slash, left_bracket, backslash, right_bracket}
use Rattle.liberty_groups.specs.Tokens.{is_plain, is_mark, opened_behind, word_length}
use Rattle.liberty_groups.specs.declared.scan.Kind.{Kind}
use Rattle.liberty_groups.specs.declared.scan.Kind.TheVariants.{Word, Bad}
use Rattle.token_texts.specs.declared.cuts.Cut.{Cut}
use Rattle.token_texts.specs.declared.cuts.Cut.TheVariants.{Take}

-- a word from its first byte on, or what begins no token
abbrev pub word_cut : ℕ → List ℕ → Cut Kind
word_cut first rest = if is_plain first then Take (word_length (opened_behind 0 first) rest + 1) Word else Take (length rest + 1) Bad

-- a byte that a word goes on with, whatever stands before and behind it, with as many `[` open as before
abbrev pub is_simple : ℕ → Bool
is_simple byte = is_plain byte && not (is_mark byte) && not (byte == slash) && not (byte == left_bracket) && not (byte == right_bracket)

-- a backslash stands right before this place
abbrev pub is_behind_backslash : List ℕ → ℕ → Bool
is_behind_backslash bytes place = nat_lt 0 place && get_or bytes (place - 1) 0 == backslash
