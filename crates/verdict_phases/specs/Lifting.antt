-- The end of a phase that reads no file, as one of a phase that may.
use Rattle.std.specs.Prelude.{◌≡◌}
use Rattle.verdict_phases.specs.declared.ends.PhaseEnd.{PhaseEnd}
use Rattle.verdict_phases.specs.declared.ends.PhaseEnd.TheVariants.{Refused, OutOfMemory}
use Rattle.verdict_phases.specs.declared.ends.NoFileEnd.{NoFileEnd}
use Rattle.verdict_phases.specs.declared.ends.NoFileEnd.TheVariants as no_file

-- the same refusal, or want of memory still
abbrev pub IsLifted : {R K : Type 0} → NoFileEnd R → PhaseEnd R K → Type 0
IsLifted (no_file.Refused refusal) end = end ≡ Refused refusal
IsLifted no_file.OutOfMemory end = end ≡ OutOfMemory
