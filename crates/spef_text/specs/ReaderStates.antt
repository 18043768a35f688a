-- What the reader's own state stands for.
use Rattle.std.specs.Prelude.{◌≡◌, Bool, true, false, Ok, Err}
use Rattle.spef_text.specs.Entries.{Reading}
use Rattle.spef_text.specs.Modes.{State, state_after}
use Rattle.spef_text.specs.declared.modes.Step.{Step}
use Rattle.spef_text.specs.declared.reader.Reader.{Reader}

abbrev pub state_of : Reader → State
state_of reader = record { mode = reader.mode; head = reader.head; done = reader.sections.done; begun = reader.sections.begun }

abbrev pub reading_of : Reader → Reading
reading_of reader = record { head = reader.head; sections = reader.sections.done }

-- the step leads from a state to another, or is refused
abbrev pub Steps : State → State → Step → Bool → Type 0
Steps before after step true = state_after before step ≡ Ok after
Steps before after step false = state_after before step ≡ Err tt
