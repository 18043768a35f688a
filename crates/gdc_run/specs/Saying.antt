-- What a run says of how it ended.
use Rattle.std.specs.Prelude.{◌≡◌, ℕ, ◌⊎◌, List, Option, Ok}
use Rattle.edge_io.specs.Counts.{Rose}
use Rattle.edge_io.specs.Told.{appended, AppendsFrontOf}
use Rattle.gdc_words.specs.CommandLine.{Request, Asks, libraries_of}
use Rattle.gdc_run.specs.Calculation.{corner_count}
use Rattle.gdc_run.specs.declared.outcome.Outcome.{Outcome}
use Rattle.gdc_run.specs.declared.outcome.Outcome.TheVariants.{Done, Refused, Usage, ReadFault, WriteFault, OutOfMemory}
use Rattle.gdc_run.specs.Lines.{line_of}

-- the line of the answer of a run with so many corners was put at the end, or else a front of it was and the count of faults rose
abbrev pub IsSaid : ℕ → Outcome → Option (List ℕ) → Option (List ℕ) → ℕ → ℕ → Type 0
IsSaid corners outcome before after faults faults' =
    (after ≡ appended before (line_of corners outcome)) ⊎ (AppendsFrontOf (line_of corners outcome) before after × Rose faults faults')

-- the words ask for a run with so many corners
abbrev pub AskForCorners : List (List ℕ) → ℕ → Type 0
AskForCorners words corners = (request : Request) × Asks words (Ok request) × (corners ≡ corner_count (libraries_of request.given))

-- The line of the answer was put at the end, or a front of it. Only a refusal names a corner, and it names one of as many as the words
-- ask for. Nothing is said of a run that is done.
abbrev pub Says : List (List ℕ) → Outcome → Option (List ℕ) → Option (List ℕ) → ℕ → ℕ → Type 0
Says words Done before after faults faults' = Unit {0}
Says words (Refused refusal) before after faults faults' =
    (corners : ℕ) × AskForCorners words corners × IsSaid corners (Refused refusal) before after faults faults'
Says words (Usage fault) before after faults faults' = IsSaid 1 (Usage fault) before after faults faults'
Says words (ReadFault key) before after faults faults' = IsSaid 1 (ReadFault key) before after faults faults'
Says words WriteFault before after faults faults' = IsSaid 1 WriteFault before after faults faults'
Says words OutOfMemory before after faults faults' = IsSaid 1 OutOfMemory before after faults faults'
