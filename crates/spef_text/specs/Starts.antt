-- The tokens of a file by the places of their first bytes.
use Rattle.std.specs.Prelude.{ℕ, ◌+◌, List, [], ◌∷◌, length, map, min, take, drop}
use Rattle.token_texts.specs.Cuts.{Part, gap, token}
use Rattle.token_texts.specs.declared.cuts.Cut.{Cut}
use Rattle.token_texts.specs.declared.cuts.Cut.TheVariants.{Skip, Take}
use Rattle.spef_text.specs.Tokens.{cut_at}
use Rattle.spef_text.specs.declared.scan.Kind.{Kind}

-- what a cut takes of some bytes as a token
abbrev pub taken_by : Cut Kind → List ℕ → List ℕ
taken_by (Skip n) bytes = []
taken_by (Take n kind) bytes = take n bytes

-- what stands at the front of some bytes
abbrev pub front_cut : List ℕ → Cut Kind
front_cut [] = Skip 0
front_cut (first ∷ rest) = cut_at first rest

-- the token at the front of some bytes
abbrev pub front_token : List ℕ → List ℕ
front_token bytes = taken_by (front_cut bytes) bytes

-- the token that begins at a place
abbrev pub token_at : List ℕ → ℕ → List ℕ
token_at bytes start = front_token (drop start bytes)

-- the texts of tokens, in order
abbrev pub texts : List ℕ → List ℕ → List (List ℕ)
texts bytes starts = map (token_at bytes) starts

-- the length of a token in a byte; the last number stands for all lengths that do not fit
abbrev pub short_len : List ℕ → ℕ
short_len text = min (length text) 255

-- the same of tokens, in order
abbrev pub short_lens : List (List ℕ) → List ℕ
short_lens texts = map short_len texts

-- where the tokens among parts begin, if the parts begin at this place
abbrev pub starts_from : ℕ → List (Part Kind) → List ℕ
starts_from place [] = []
starts_from place (gap bytes ∷ parts) = starts_from (place + length bytes) parts
starts_from place (token lexeme ∷ parts) = place ∷ starts_from (place + length lexeme.bytes) parts
