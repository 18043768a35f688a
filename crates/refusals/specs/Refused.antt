-- A fact of an answer that is a refusal, or a read fault; and phases that have no read fault.
use Rattle.std.specs.Prelude.{Result, Ok, Err}
use Rattle.verdict_phases.specs.Phases.{Stop, RefusedBy, Unread, Reads, Step, Go, Halt}
use Rattle.verdict_phases.specs.declared.ends.NoFileEnd.{NoFileEnd}
use Rattle.verdict_phases.specs.declared.ends.NoFileEnd.TheVariants as no_file
use Rattle.verdict_phases.specs.declared.ends.PhaseEnd.{PhaseEnd}
use Rattle.verdict_phases.specs.declared.ends.PhaseEnd.TheVariants as phase
use Rattle.refusals.specs.declared.refusal.FileKey.{FileKey}
use Rattle.refusals.specs.declared.refusal.Refusal.{Refusal}

-- a fact of a refusal; want of memory says nothing
abbrev pub OnRefusal : {A : Type 0} → Result A (NoFileEnd Refusal) → (Refusal → Type 0) → Type 0
OnRefusal (Ok value) fact = Unit {0}
OnRefusal (Err (no_file.Refused refusal)) fact = fact refusal
OnRefusal (Err no_file.OutOfMemory) fact = Unit {0}

-- a fact of the key where a file could not be read
abbrev pub AtReadFault : {A : Type 0} → Result A (PhaseEnd Refusal FileKey) → (FileKey → Type 0) → Type 0
AtReadFault (Ok value) fact = Unit {0}
AtReadFault (Err (phase.Refused refusal)) fact = Unit {0}
AtReadFault (Err (phase.ReadFault key)) fact = fact key
AtReadFault (Err phase.OutOfMemory) fact = Unit {0}

-- a fact of why the phases stop; want of memory says nothing
abbrev pub OnStop : {A : Type 0} → Result A (PhaseEnd Refusal FileKey) → (Stop Refusal FileKey → Type 0) → Type 0
OnStop (Ok value) fact = Unit {0}
OnStop (Err (phase.Refused refusal)) fact = fact (RefusedBy refusal)
OnStop (Err (phase.ReadFault key)) fact = fact (Reads key)
OnStop (Err phase.OutOfMemory) fact = Unit {0}

-- a phase that reads no file, as one that may: it goes on with its value, or it is refused
abbrev pub WithoutFile : {A : Type 0} → (Result A Refusal → Type 0) → Step Refusal FileKey A → Type 0
WithoutFile phase (Go value) = phase (Ok value)
WithoutFile phase (Halt (RefusedBy refusal)) = phase (Err refusal)
WithoutFile phase (Halt (Unread key)) = ⊥
WithoutFile phase (Halt (Reads key)) = ⊥
