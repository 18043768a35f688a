-- How far a comment goes: up to the end of its line, or up to the two bytes that end it. What stands where one begins.
use Rattle.std.specs.Prelude.{ℕ, ◌+◌, ◌&&◌, ◌==◌, if◌then◌else◌, List, [], ◌∷◌, length, drop, position, Option, Some, None, unwrap_or}
use Rattle.std.specs.Option.{option_map}
use Rattle.edge_io.specs.Bytes.{star, slash, begins_with}
use Rattle.token_texts.specs.Blanks.{is_line_end}
use Rattle.token_texts.specs.declared.cuts.Cut.{Cut}
use Rattle.token_texts.specs.declared.cuts.Cut.TheVariants.{Skip, Take}

-- A byte with `rest` behind it, which begins a comment: how many bytes the comment has up to the end of its line, or of the file.
abbrev pub line_length : List ℕ → ℕ
line_length rest = unwrap_or (position is_line_end rest) (length rest) + 1

-- the place of the first of these two bytes that has the second right behind it
unfoldable pub pair_place : ℕ → ℕ → List ℕ → Option ℕ
pair_place one two [] = None
pair_place one two (byte ∷ rest) =
    if byte == one && begins_with two rest then Some 0
    else option_map (λ place. place + 1) (pair_place one two rest)

-- The two bytes that begin a comment with `inner` behind them, in which it ends at this place: it is passed over, or it does not end,
-- and is a token of this kind that takes all.
abbrev pub comment_to : {K : Type 0} → K → List ℕ → Option ℕ → Cut K
comment_to open_kind inner None = Take (length inner + 2) open_kind
comment_to open_kind inner (Some place) = Skip (place + 4)

-- The same, where the comment ends with the first star that has this byte right behind it: that of `/*` with a slash.
abbrev pub comment_cut : {K : Type 0} → ℕ → K → List ℕ → Cut K
comment_cut last open_kind inner = comment_to open_kind inner (pair_place star last inner)

-- A byte with `rest` behind it: a comment from `//` up to the end of its line, or from `/*` up to its `*/`, or none.
abbrev pub comment_at : {K : Type 0} → K → ℕ → List ℕ → Option (Cut K)
comment_at open_kind first rest =
    if first == slash then
    (if begins_with slash rest then Some (Skip (line_length rest))
    else (if begins_with star rest then Some (comment_cut slash open_kind (drop 1 rest))
    else None))
    else None
