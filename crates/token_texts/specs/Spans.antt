-- What a piece of a file's bytes stands for.
use Rattle.std.specs.Prelude.{ℕ, List, take, drop}
use Rattle.token_texts.specs.declared.spans.Span.{Span}

-- the bytes of the piece
abbrev pub text_at : List ℕ → Span → List ℕ
text_at bytes span = take span.len (drop span.start bytes)
