-- Where nothing outside fails, the verdict is answered.
use Rattle.std.specs.Prelude.{◌≡◌, ℕ, ◌⊎◌, List, Option}
use Rattle.edge_io.specs.Counts.{Rose}
use Rattle.edge_io.specs.Holding.{Held}
use Rattle.verdict_phases.specs.Phases.{RefusedBy, Unread, Reads, Go, Halt}
use Rattle.gdc_run.specs.declared.outcome.Outcome.{Outcome}
use Rattle.gdc_run.specs.declared.outcome.Outcome.TheVariants.{Done, Refused, Usage, ReadFault, OutOfMemory}
use Rattle.gdc_run.specs.Verdict.{Verdict, Faulty, Answers, Gives}

-- the answer that a verdict wants: the reading of a file is no verdict by itself
abbrev pub Wants : Verdict → Outcome → Type 0
Wants (Faulty fault) outcome = outcome ≡ Usage fault
Wants (Answers (Go output)) outcome = outcome ≡ Done
Wants (Answers (Halt (RefusedBy refusal))) outcome = outcome ≡ Refused refusal
Wants (Answers (Halt (Unread key))) outcome = outcome ≡ ReadFault key
Wants (Answers (Halt (Reads key))) outcome = ⊥

-- the answer is the one that the verdict on the words and on what is held wants
pub record AnswersVerdict (words : List (List ℕ)) (held : Option Held) (outcome : Outcome) : Type 0 where
  pub verdict : Verdict
  pub given : Gives words held verdict
  pub wanted : Wants verdict outcome

-- where neither the shelf's count of faults nor that of the sink rose, the verdict is answered, unless memory ran out
abbrev pub IsComplete : List (List ℕ) → Option Held → ℕ → ℕ → ℕ → ℕ → Outcome → Type 0
IsComplete words held shelf_faults shelf_faults' out_faults out_faults' outcome =
    (Rose shelf_faults shelf_faults' → ⊥) → (Rose out_faults out_faults' → ⊥)
    → (outcome ≡ OutOfMemory) ⊎ AnswersVerdict words held outcome
