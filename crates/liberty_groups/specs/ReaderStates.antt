-- What the reader stands for.
use Rattle.std.specs.Prelude.{◌≡◌, Bool, true, false, length, Option, Some, None, Result, Ok, Err}
use Rattle.liberty_groups.specs.Modes.{State, settled}
use Rattle.liberty_groups.specs.Building.{Built}
use Rattle.liberty_groups.specs.Built.{built_of}
use Rattle.liberty_groups.specs.declared.modes.Mode.{Mode}
use Rattle.liberty_groups.specs.declared.faults.Cause.{Cause}
use Rattle.liberty_groups.specs.declared.reader.Reader.{Reader}

abbrev pub at_mode : Mode → Built → State
at_mode mode b = record { mode = mode; name = b.name; parts = b.parts; frames = b.frames }

abbrev pub state_of : Reader → State
state_of reader = at_mode reader.mode (built_of reader.builder)

-- it counts the groups that have not ended
abbrev pub IsSound : Reader → Type 0
IsSound reader = reader.depth ≡ length (built_of reader.builder).frames

abbrev pub settled_if : Bool → State → State
settled_if true s = settled s
settled_if false s = s

-- the step leads to this state, or the token is refused for a cause
abbrev pub Steps : Result State Cause → State → Option Cause → Type 0
Steps answer after None = answer ≡ Ok after
Steps answer after (Some cause) = answer ≡ Err cause
