-- The answer of a text is that of its file.
use Rattle.std.proofs.Common.{ℕ, List, Option, Result, Ok, Err}
use Rattle.edge_io.specs.Holding.{Held}
use Rattle.sdf_writer.specs.SdfText.{SdfRows}
use Rattle.spef_nets.specs.Sections.{Corners}
use Rattle.verdict_phases.specs.Phases.{RefusedBy, Go, Halt, Follows}
use Rattle.verdict_phases.specs.declared.ends.PhaseEnd.{PhaseEnd}
use Rattle.verdict_phases.specs.declared.ends.PhaseEnd.TheVariants as phase
use Rattle.refusals.specs.declared.refusal.FileKey.{FileKey}
use Rattle.refusals.specs.declared.refusal.Refusal.{Refusal}
use Rattle.wire_phases.specs.WireRows.{TextGives, unread, of_design}
use Rattle.refusals.specs.Refused.{WithoutFile}
use Rattle.command_rows.specs.CommandRows.{WiresGives, at_spef, at_nets, with_rows}
use Rattle.wire_phases.specs.SpefPhases.{ReadsSpefFile}

text_refused : {I : Type 0} (corners : Corners I) (held : Option Held) (name bytes : List ℕ) (refusal : Refusal) → ReadsSpefFile held name (Go bytes) → TextGives corners bytes (Err refusal) → WiresGives corners held name (Halt (RefusedBy refusal))
text_refused corners held name bytes refusal reads (unread its faulty) = at_spef bytes refusal reads faulty
text_refused corners held name bytes refusal reads (of_design design answer parsed rows) = at_nets bytes design refusal reads parsed rows

text_rows : {I : Type 0} (corners : Corners I) (held : Option Held) (name bytes : List ℕ) (rows : SdfRows) → ReadsSpefFile held name (Go bytes) → TextGives corners bytes (Ok rows) → WiresGives corners held name (Go rows)
text_rows corners held name bytes rows reads (of_design design answer parsed gives) = with_rows bytes design rows reads parsed gives

pub text_follows : {I : Type 0} (corners : Corners I) (held : Option Held) (name bytes : List ℕ) (result : Result SdfRows (PhaseEnd Refusal FileKey)) → ReadsSpefFile held name (Go bytes) → Follows (WithoutFile (TextGives corners bytes)) result → Follows (WiresGives corners held name) result
text_follows corners held name bytes (Ok rows) reads gives = text_rows corners held name bytes rows reads gives
text_follows corners held name bytes (Err (phase.Refused refusal)) reads gives = text_refused corners held name bytes refusal reads gives
text_follows corners held name bytes (Err (phase.ReadFault key)) reads gives = absurd gives
text_follows corners held name bytes (Err phase.OutOfMemory) reads gives = tt
