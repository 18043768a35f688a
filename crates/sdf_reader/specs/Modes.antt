-- An SDF file taken one token at a time: what is waited for and what has been read, and what becomes of that with each token. What may
-- stand as a number is a parameter, and what it says.
use Rattle.std.specs.Prelude.{◌≡◌, ℕ, List, [], ◌++◌, Option, Some, None, Result, Ok, Err}
use Rattle.name_table.specs.SdfNames.{canonical}
use Rattle.token_fronts.specs.Tokens.{Token}
use Rattle.sdf_reader.specs.Tokens.{Lexeme, meaning}
use Rattle.sdf_reader.specs.Rows.{plain_head, no_value, rows_in}
use Rattle.sdf_reader.specs.Grammar.{instance_of}
use Rattle.sdf_reader.specs.Steps.{class_of, cause_of, Move, next_of}
use Rattle.sdf_reader.specs.declared.modes.Mode.{Mode}
use Rattle.sdf_reader.specs.declared.modes.Mode.TheVariants as mode
use Rattle.sdf_reader.specs.declared.modes.Action.{Action}
use Rattle.sdf_reader.specs.declared.modes.Action.TheVariants.{Nothing, Divide, Rescale, SetType, Instance, NoInstance, Begin, From, To, Empty, Number, Row}
use Rattle.sdf_reader.specs.declared.scan.Kind.{Kind}
use Rattle.sdf_reader.specs.declared.modes.Shape.{Shape}
use Rattle.sdf_reader.specs.declared.reader.Taken.{Taken}
use Rattle.sdf_reader.specs.declared.reader.Taken.TheVariants as taken
use Rattle.sdf_reader.specs.declared.rows.Value.{Value}
use Rattle.sdf_reader.specs.declared.rows.SdfRow.{SdfRow}
use Rattle.sdf_reader.specs.declared.timescales.Timescale.{Timescale}
use Rattle.sdf_reader.specs.declared.ends.SdfCause.{SdfCause}
use Rattle.sdf_reader.specs.declared.ends.SdfCause.TheVariants.{EndInside, BadNumber}

-- the names of an entry, and its values
pub record Entry : Type 0 where
  pub from : List ℕ
  pub to : List ℕ
  pub taken : Taken
  pub rise : Value
  pub fall : Value

-- what is waited for, what the heads set, the cell, its entry, and the rows so far
pub record State : Type 0 where
  pub mode : Mode
  pub divider : ℕ
  pub scale : Timescale
  pub cell : List ℕ
  pub instance : Option (List ℕ)
  pub entry : Entry
  pub rows : List SdfRow

abbrev pub no_entry : Entry
no_entry = record { from = []; to = []; taken = taken.None; rise = no_value; fall = no_value }

abbrev pub first_state : State
first_state = record {
  mode = mode.Start;
  divider = plain_head.divider;
  scale = plain_head.scale;
  cell = [];
  instance = None;
  entry = no_entry;
  rows = [];
}

abbrev pub to_mode : Mode → State → State
to_mode mode s = record s { mode = mode }

abbrev pub with_entry : Entry → State → State
with_entry entry s = record s { entry = entry }

abbrev pub begun : Entry → Entry
begun entry = record { from = entry.from; to = entry.to; taken = taken.None; rise = no_value; fall = no_value }

abbrev pub from_name : List ℕ → Entry → Entry
from_name name entry = record { from = name; to = entry.to; taken = entry.taken; rise = entry.rise; fall = entry.fall }

abbrev pub to_name : List ℕ → Entry → Entry
to_name name entry = record { from = entry.from; to = name; taken = entry.taken; rise = entry.rise; fall = entry.fall }

-- an entry with one value more: the first is its rise and its fall, the second its fall, and others say nothing
abbrev pub kept : Taken → Value → Entry → Entry
kept taken.None value entry = record { from = entry.from; to = entry.to; taken = taken.One; rise = value; fall = value }
kept taken.One value entry = record { from = entry.from; to = entry.to; taken = taken.More; rise = entry.rise; fall = value }
kept taken.More value entry = entry

abbrev pub with_value : Value → Entry → Entry
with_value value entry = kept entry.taken value entry

-- behind an entry its names are gone
abbrev pub cleared : Entry → Entry
cleared entry = record { from = []; to = []; taken = entry.taken; rise = entry.rise; fall = entry.fall }

abbrev pub rows_behind : Shape → State → List SdfRow
rows_behind shape s = s.rows ++ rows_in shape s.cell s.instance s.entry.from s.entry.to s.entry.rise s.entry.fall

abbrev pub with_rows : Shape → State → State
with_rows shape s = record s { entry = cleared s.entry; rows = rows_behind shape s }

-- behind a word in a value: its number, if it is one
abbrev pub numbered_by : Option Value → State → Result State SdfCause
numbered_by None s = Err BadNumber
numbered_by (Some value) s = Ok (with_entry (with_value value s.entry) s)

module _ (number : Timescale → List ℕ → Option Value) where
  -- the state behind what is done with a token of these bytes
  abbrev pub applied : Action → State → List ℕ → Result State SdfCause
  applied Nothing s bytes = Ok s
  applied (Divide byte) s bytes = Ok (record s { divider = byte })
  applied (Rescale scale) s bytes = Ok (record s { scale = scale })
  applied SetType s bytes = Ok (record s { cell = meaning bytes })
  applied Instance s bytes = Ok (record s { instance = instance_of s.divider bytes })
  applied NoInstance s bytes = Ok (record s { instance = Some [] })
  applied Begin s bytes = Ok (with_entry (begun s.entry) s)
  applied From s bytes = Ok (with_entry (from_name (canonical s.divider bytes) s.entry) s)
  applied To s bytes = Ok (with_entry (to_name (canonical s.divider bytes) s.entry) s)
  applied Empty s bytes = Ok (with_entry (with_value no_value s.entry) s)
  applied Number s bytes = numbered_by (number s.scale bytes) s
  applied (Row shape) s bytes = Ok (with_rows shape s)

  -- the state behind a token of this kind that makes this, or why it cannot stand
  abbrev pub moved : Kind → Move → State → List ℕ → Result State SdfCause
  moved k None s bytes = Err (cause_of k)
  moved k (Some to) s bytes = applied to.1 (to_mode to.0 s) bytes

  abbrev pub step : State → Kind → List ℕ → Result State SdfCause
  step s k bytes = moved k (next_of s.mode (class_of k bytes) bytes) s bytes

  abbrev pub next : State → Token Lexeme → Result State SdfCause
  next s token = step s token.text.kind token.text.bytes

abbrev pub finish_in : Mode → List SdfRow → Result (List SdfRow) SdfCause
finish_in mode.End rows = Ok rows
finish_in _ rows = Err EndInside

abbrev pub finish : State → Result (List SdfRow) SdfCause
finish s = finish_in s.mode s.rows

-- the function finds what a word says as a number, by this relation, and nothing where it says none
pub record Decides (IsNumber : Timescale → List ℕ → Value → Type 0) (number : Timescale → List ℕ → Option Value) : Type 0 where
  pub finds : (scale : Timescale) (word : List ℕ) (value : Value) → IsNumber scale word value → number scale word ≡ Some value
  pub means : (scale : Timescale) (word : List ℕ) (value : Value) → number scale word ≡ Some value → IsNumber scale word value
