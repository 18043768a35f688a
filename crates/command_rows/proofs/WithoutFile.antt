-- A phase that reads no file has no read fault.
use Rattle.std.proofs.Common.{Result, Ok, Err}
use Rattle.verdict_phases.specs.Phases.{Follows}
use Rattle.verdict_phases.specs.declared.ends.PhaseEnd.{PhaseEnd}
use Rattle.verdict_phases.specs.declared.ends.PhaseEnd.TheVariants as phase
use Rattle.refusals.specs.declared.refusal.FileKey.{FileKey}
use Rattle.refusals.specs.declared.refusal.Refusal.{Refusal}
use Rattle.refusals.specs.Refused.{AtReadFault, WithoutFile}

pub unfaulted : {A : Type 0} (gives : Result A Refusal → Type 0) (fact : FileKey → Type 0) (result : Result A (PhaseEnd Refusal FileKey)) → Follows (WithoutFile gives) result → AtReadFault result fact
unfaulted gives fact (Ok value) follows = tt
unfaulted gives fact (Err (phase.Refused refusal)) follows = tt
unfaulted gives fact (Err (phase.ReadFault key)) follows = absurd follows
unfaulted gives fact (Err phase.OutOfMemory) follows = tt
