-- The line of a run's answer is that of as many corners as the words ask for.
use Rattle.std.proofs.Common.{ℕ, inl, inr, List, Option, Result, Ok, Err}
use Rattle.edge_io.specs.Writing.{Writes}
use Rattle.edge_io.specs.declared.failures.Failed.{Failed}
use Rattle.gdc_run.specs.Lines.{line_of}
use Rattle.gdc_run.specs.Outcomes.{IfRefused}
use Rattle.gdc_run.specs.Saying.{IsSaid, AskForCorners, Says}
use Rattle.gdc_run.specs.declared.outcome.Outcome.{Outcome}
use Rattle.gdc_run.specs.declared.outcome.Outcome.TheVariants.{Done, Refused, Usage, ReadFault, WriteFault, OutOfMemory}

-- what is written is said
is_said : (corners : ℕ) (outcome : Outcome) (before after : Option (List ℕ)) (faults faults' : ℕ) (result : Result (Unit {0}) Failed) → Writes (line_of corners outcome) before after faults faults' result
    → IsSaid corners outcome before after faults faults'
is_said corners outcome before after faults faults' (Ok done) writes = inl writes.ok
is_said corners outcome before after faults faults' (Err failed) writes = inr (writes.cut, writes.cause)

-- every answer but a refusal has one line, however many corners there are
of_corners : (words : List (List ℕ)) (outcome : Outcome) (corners : ℕ) (before after : Option (List ℕ)) (faults faults' : ℕ) → IfRefused outcome (λ _. AskForCorners words corners)
    → IsSaid corners outcome before after faults faults' → Says words outcome before after faults faults'
of_corners words Done corners before after faults faults' asks said = tt
of_corners words (Refused refusal) corners before after faults faults' asks said = (corners, asks, said)
of_corners words (Usage fault) corners before after faults faults' asks said = said
of_corners words (ReadFault key) corners before after faults faults' asks said = said
of_corners words WriteFault corners before after faults faults' asks said = said
of_corners words OutOfMemory corners before after faults faults' asks said = said

pub says_of : (words : List (List ℕ)) (outcome : Outcome) (corners : ℕ) (before after : Option (List ℕ)) (faults faults' : ℕ) (result : Result (Unit {0}) Failed) → IfRefused outcome (λ _. AskForCorners words corners)
    → Writes (line_of corners outcome) before after faults faults' result → Says words outcome before after faults faults'
says_of words outcome corners before after faults faults' result asks writes =
    of_corners words outcome corners before after faults faults' asks (is_said corners outcome before after faults faults' result writes)
