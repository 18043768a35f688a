-- What the reader is behind some tokens, whatever finds the values of numbers.
use Rattle.std.specs.Prelude.{ℕ, ◌*◌, ◌<◌, ◌≤◌, List, length, Option}
use Rattle.token_texts.specs.Cuts.{Part, lexemes}
use Rattle.token_texts.specs.Leading as leading
use Rattle.sdf_reader.specs.declared.scan.Kind.{Kind}
use Rattle.sdf_reader.specs.Numbers.{IsValue}
use Rattle.sdf_reader.specs.Sizes.{IsValueWithin}
use Rattle.sdf_reader.specs.Modes.{first_state, next, finish, Decides}
use Rattle.sdf_reader.specs.ReaderStates.{state_of}
use Rattle.sdf_reader.specs.Steps.{depth_of}
use Rattle.sdf_reader.specs.declared.reader.Reader.{Reader}
use Rattle.sdf_reader.specs.declared.rows.Value.{Value}
use Rattle.sdf_reader.specs.declared.rows.SdfRow.{SdfRow}
use Rattle.sdf_reader.specs.declared.timescales.Timescale.{Timescale}
use Rattle.sdf_reader.specs.declared.ends.SdfCause.{SdfCause}

-- the tokens among the parts lead to the reader's state
abbrev pub Leads : List (Part Kind) → Reader → Type 0
Leads before reader =
    (number : Timescale → List ℕ → Option Value) → Decides IsValue number
    → leading.Leads (next number) finish first_state (lexemes before) (state_of reader)

-- they are refused at the token of this number
abbrev pub Stops : List (Part Kind) → ℕ → SdfCause → Type 0
Stops parts at cause =
    (number : Timescale → List ℕ → Option Value) → Decides IsValue number
    → leading.Stops (next number) finish first_state (lexemes parts) at cause

-- they say the rows
abbrev pub Makes : List (Part Kind) → List SdfRow → Type 0
Makes parts rows =
    (number : Timescale → List ℕ → Option Value) → Decides IsValue number
    → leading.Makes (next number) finish first_state (lexemes parts) rows

-- each token adds at most one row, and opens at most 256 forms
pub record IsSound (number : ℕ) (reader : Reader) : Type 0 where
  pub deep : depth_of reader.mode ≤ number * 256
  pub rise : IsValueWithin reader.rise
  pub fall : IsValueWithin reader.fall
  pub few : length reader.rows < number
