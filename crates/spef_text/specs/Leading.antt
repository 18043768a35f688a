-- What the reader is behind some tokens.
use Rattle.std.specs.Prelude.{◌≡◌, ℕ, List}
use Rattle.token_texts.specs.Cuts.{Part}
use Rattle.token_texts.specs.Leading as leading
use Rattle.spef_text.specs.Tokens.{texts_of}
use Rattle.spef_text.specs.Starts.{starts_from, short_lens}
use Rattle.spef_text.specs.Modes.{first_state, next, finish}
use Rattle.spef_text.specs.ReaderStates.{state_of, reading_of}
use Rattle.spef_text.specs.SpefFiles.{IsRefusalAt}
use Rattle.spef_text.specs.declared.scan.Kind.{Kind}
use Rattle.spef_text.specs.declared.reader.Reader.{Reader}
use Rattle.spef_text.specs.declared.parsing.SpefEnd.{SpefEnd}

-- the tokens among the parts lead to the reader's state, and it has where they begin, and their lengths
pub record Leads (before : List (Part Kind)) (reader : Reader) : Type 0 where
  pub state : leading.Leads next finish first_state (texts_of before) (state_of reader)
  pub starts : reader.starts.items ≡ starts_from 0 before
  pub lens : reader.lens.items ≡ short_lens (texts_of before)

-- they are refused at the token of this number
pub record Stops (parts : List (Part Kind)) (number : ℕ) (end : SpefEnd) : Type 0 where
  pub stops : leading.Stops next finish first_state (texts_of parts) number tt
  pub refusal : IsRefusalAt (texts_of parts) number end

-- they say what the reader has read, and it has where they begin, and their lengths
pub record Makes (parts : List (Part Kind)) (reader : Reader) : Type 0 where
  pub reading : leading.Makes next finish first_state (texts_of parts) (reading_of reader)
  pub starts : reader.starts.items ≡ starts_from 0 parts
  pub lens : reader.lens.items ≡ short_lens (texts_of parts)
