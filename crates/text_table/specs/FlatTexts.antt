-- Texts in one table of bytes.
use Rattle.std.specs.Prelude.{◌≡◌, ℕ, ◌+◌, ◌≤◌, List, map, slice_get, Some}
use Rattle.token_texts.specs.Spans.{text_at}
use Rattle.token_texts.specs.declared.spans.Span.{Span}

-- the texts at these places
abbrev pub texts_of : List ℕ → List Span → List (List ℕ)
texts_of bytes pieces = map (text_at bytes) pieces

-- each place is within the first so many bytes, so that further bytes change no text
pub record AreWithin (count : ℕ) (pieces : List Span) : Type 0 where
  pub each : (i : ℕ) (piece : Span) → slice_get pieces i ≡ Some piece → piece.start + piece.len ≤ count
