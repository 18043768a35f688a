-- What a phase of a command answers, and when the answer of the code follows it.
--
-- A phase is a relation on steps: where several answers are right, as any one of several cycles, it relates them all. The
-- refusals and the keys of files are types of the command's, R and K.
use Rattle.std.specs.Prelude.{Result, Ok, Err}
use Rattle.verdict_phases.specs.declared.ends.PhaseEnd.{PhaseEnd}
use Rattle.verdict_phases.specs.declared.ends.PhaseEnd.TheVariants.{Refused, ReadFault, OutOfMemory}
use Rattle.verdict_phases.specs.declared.ends.NoFileEnd.{NoFileEnd}
use Rattle.verdict_phases.specs.declared.ends.NoFileEnd.TheVariants as no_file

-- why the phases stop: by a refusal, at a file that is needed and not held, or at the reading of a file, where a fault of
-- the outside may come
pub data Stop (R K : Type 0) : Type 0 where
  RefusedBy : R → Stop R K
  Unread : K → Stop R K
  Reads : K → Stop R K

-- the phases go on with a value, or stop
pub data Step (R K A : Type 0) : Type 0 where
  Go : A → Step R K A
  Halt : Stop R K → Step R K A

-- the code's answer follows the phase; want of memory says nothing of it
abbrev pub Follows : {R K A : Type 0} → (Step R K A → Type 0) → Result A (PhaseEnd R K) → Type 0
Follows phase (Ok value) = phase (Go value)
Follows phase (Err (Refused refusal)) = phase (Halt (RefusedBy refusal))
Follows phase (Err (ReadFault key)) = phase (Halt (Reads key))
Follows phase (Err OutOfMemory) = Unit {0}

-- the code's answer follows a phase that reads no file
abbrev pub FollowsNoFile : {R A : Type 0} → (Result A R → Type 0) → Result A (NoFileEnd R) → Type 0
FollowsNoFile phase (Ok value) = phase (Ok value)
FollowsNoFile phase (Err (no_file.Refused refusal)) = phase (Err refusal)
FollowsNoFile phase (Err no_file.OutOfMemory) = Unit {0}

-- a fact that holds where the answer is a read fault
abbrev pub OnReadFault : {R K A : Type 0} → Result A (PhaseEnd R K) → Type 0 → Type 0
OnReadFault (Ok value) fact = Unit {0}
OnReadFault (Err (Refused refusal)) fact = Unit {0}
OnReadFault (Err (ReadFault key)) fact = fact
OnReadFault (Err OutOfMemory) fact = Unit {0}
