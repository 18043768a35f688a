-- The exit status of each way in which a run ends.
use Rattle.std.specs.Prelude.{ℕ}
use Rattle.gdc_run.specs.declared.outcome.Outcome.{Outcome}
use Rattle.gdc_run.specs.declared.outcome.Outcome.TheVariants.{Done, Refused, Usage, ReadFault, WriteFault, OutOfMemory}

abbrev pub status_of : Outcome → ℕ
status_of Done = 0
status_of (Refused refusal) = 1
status_of (Usage fault) = 2
status_of (ReadFault key) = 3
status_of WriteFault = 4
status_of OutOfMemory = 5
