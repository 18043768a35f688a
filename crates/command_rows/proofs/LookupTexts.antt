-- What `lookup` gives at the one corner of a run.
use Rattle.std.proofs.Common.{ℕ, List, Option, Result, Ok, Err}
use Rattle.edge_io.specs.Holding.{Held}
use Rattle.corner_set.specs.declared.choices.Beyond.{Beyond}
use Rattle.verdict_phases.specs.Phases.{Stop, RefusedBy, Step, Go, Halt, Follows}
use Rattle.verdict_phases.specs.declared.ends.PhaseEnd.{PhaseEnd}
use Rattle.verdict_phases.specs.declared.ends.PhaseEnd.TheVariants as phase
use Rattle.refusals.specs.InputFiles.{ReadsInput}
use Rattle.refusals.specs.declared.refusal.FileKey.{FileKey}
use Rattle.refusals.specs.declared.refusal.FileKey.TheVariants.{Lib}
use Rattle.refusals.specs.declared.refusal.Refusal.{Refusal}
use Rattle.command_rows.specs.declared.arc_rows.ArcRow.{ArcRow}
use Rattle.refusals.specs.Refused.{WithoutFile}
use Rattle.command_rows.specs.CommandRows.{ReadsArcs, LookupGives, at_library_reading, at_arcs, with_arc_rows}

-- the library of the one corner is read
abbrev pub ReadsSoleLibrary : Option Held → List ℕ → Step Refusal FileKey (List ℕ) → Type 0
ReadsSoleLibrary held file step = ReadsInput held Lib file step

pub library_halts : {held : Option Held} {file name : List ℕ} {slew load : ℕ} {beyond : Beyond} (why : Stop Refusal FileKey) → ReadsSoleLibrary held file (Halt why) → LookupGives 1 0 held file name slew load beyond (Halt why)
library_halts why reads = at_library_reading why reads

arcs_refused : {held : Option Held} {file name : List ℕ} {slew load : ℕ} {beyond : Beyond} (bytes : List ℕ) (refusal : Refusal) → ReadsSoleLibrary held file (Go bytes) → ReadsArcs 0 name slew load beyond bytes (Err refusal)
    → LookupGives 1 0 held file name slew load beyond (Halt (RefusedBy refusal))
arcs_refused bytes refusal reads arcs = at_arcs bytes refusal reads arcs

arcs_given : {held : Option Held} {file name : List ℕ} {slew load : ℕ} {beyond : Beyond} (bytes : List ℕ) (rows : List ArcRow) → ReadsSoleLibrary held file (Go bytes) → ReadsArcs 0 name slew load beyond bytes (Ok rows)
    → LookupGives 1 0 held file name slew load beyond (Go rows)
arcs_given bytes rows reads arcs = with_arc_rows bytes rows reads arcs

pub arcs_follow : (held : Option Held) (file name : List ℕ) (slew load : ℕ) (beyond : Beyond) (bytes : List ℕ) (result : Result (List ArcRow) (PhaseEnd Refusal FileKey)) → ReadsSoleLibrary held file (Go bytes)
    → Follows (WithoutFile (ReadsArcs 0 name slew load beyond bytes)) result → Follows (LookupGives 1 0 held file name slew load beyond) result
arcs_follow held file name slew load beyond bytes (Ok rows) reads arcs = arcs_given bytes rows reads arcs
arcs_follow held file name slew load beyond bytes (Err (phase.Refused refusal)) reads arcs = arcs_refused bytes refusal reads arcs
arcs_follow held file name slew load beyond bytes (Err (phase.ReadFault key)) reads arcs = absurd arcs
arcs_follow held file name slew load beyond bytes (Err phase.OutOfMemory) reads arcs = tt
