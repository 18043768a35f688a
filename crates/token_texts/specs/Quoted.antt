-- How far a text in quotes goes, and what stands at a quote.
use Rattle.std.specs.Prelude.{ℕ, ◌+◌, Bool, not, ◌&&◌, ◌==◌, if◌then◌else◌, List, [], ◌∷◌, length, Option, Some, None, false}
use Rattle.std.specs.Option.{option_map}
use Rattle.edge_io.specs.Bytes.{quote, backslash}
use Rattle.token_texts.specs.declared.cuts.Cut.{Cut}
use Rattle.token_texts.specs.declared.cuts.Cut.TheVariants.{Take}
use Rattle.token_texts.specs.declared.quoted.Escape.{Escape}
use Rattle.token_texts.specs.declared.quoted.Escape.TheVariants.{NextByte, NextQuote}

-- Whether a byte takes the next one with it, where `taken` says that it is taken itself: a backslash does, unless it is
-- taken, or in any case.
abbrev pub takes : Escape → ℕ → Bool → Bool
takes NextByte byte taken = byte == backslash && not taken
takes NextQuote byte taken = byte == backslash

-- Bytes behind a quote, of which the first is taken, or not: the place of the quote that ends the text, which is the first
-- that no byte takes.
unfoldable pub quote_end : Escape → Bool → List ℕ → Option ℕ
quote_end escape taken [] = None
quote_end escape taken (byte ∷ rest) =
    if byte == quote && not taken then Some 0
    else option_map (λ place. place + 1) (quote_end escape (takes escape byte taken) rest)

-- A quote with `rest` behind it, in which the text ends at this place: a token of the first kind, or, where it does not end, one of the
-- second that takes all.
abbrev pub quoted_to : {K : Type 0} → K → K → List ℕ → Option ℕ → Cut K
quoted_to quoted_kind open_kind rest None = Take (length rest + 1) open_kind
quoted_to quoted_kind open_kind rest (Some place) = Take (place + 2) quoted_kind

abbrev pub quoted_cut : {K : Type 0} → Escape → K → K → List ℕ → Cut K
quoted_cut escape quoted_kind open_kind rest = quoted_to quoted_kind open_kind rest (quote_end escape false rest)
