-- What the reader stands for.
use Rattle.std.specs.Prelude.{◌≡◌, List, Option, Some, None, Result, Ok, Err}
use Rattle.sdf_reader.specs.Modes.{State}
use Rattle.sdf_reader.specs.declared.rows.SdfRow.{SdfRow}
use Rattle.sdf_reader.specs.declared.ends.SdfCause.{SdfCause}
use Rattle.sdf_reader.specs.declared.ends.SdfCause.TheVariants.{EndInside}
use Rattle.sdf_reader.specs.declared.reader.Reader.{Reader}

abbrev pub state_of : Reader → State
state_of r = record {
  mode = r.mode;
  divider = r.divider;
  scale = r.scale;
  cell = r.cell;
  instance = r.instance;
  entry = record { from = r.from; to = r.to; taken = r.taken; rise = r.rise; fall = r.fall };
  rows = r.rows;
}

-- the step leads to this state, or the token is refused for a cause
abbrev pub Steps : Result State SdfCause → State → Option SdfCause → Type 0
Steps answer after None = answer ≡ Ok after
Steps answer after (Some cause) = answer ≡ Err cause

-- the file says these rows, or may not end here
abbrev pub Finishes : Result (List SdfRow) SdfCause → Option (List SdfRow) → Type 0
Finishes answer (Some rows) = answer ≡ Ok rows
Finishes answer None = answer ≡ Err EndInside
