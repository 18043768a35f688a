-- The ends of the deciding part of a run.
use Rattle.std.specs.Prelude.{ℕ, List, Option, Result, Ok, Err}
use Rattle.edge_io.specs.Holding.{Held}
use Rattle.verdict_phases.specs.Phases.{RefusedBy, Reads, Go, Halt}
use Rattle.verdict_phases.specs.declared.ends.PhaseEnd.TheVariants as phase
use Rattle.gdc_words.specs.declared.faults.WordsEnd.{WordsEnd}
use Rattle.gdc_words.specs.declared.faults.WordsEnd.TheVariants as words
use Rattle.gdc_run.specs.declared.top.End.{End}
use Rattle.gdc_run.specs.declared.top.End.TheVariants.{Usage, Phase, OutOfMemory}
use Rattle.gdc_run.specs.declared.output.Output.{Output}
use Rattle.gdc_run.specs.Verdict.{Gives, Faulty, Answers}
use Rattle.gdc_run.specs.Outcomes.{HasReadFault}
use Rattle.gdc_run.specs.ReadBack.{IsFitFor}

-- the end of the words, as one of the run
abbrev pub end_of_words : WordsEnd → End
end_of_words (words.Usage fault) = Usage fault
end_of_words words.OutOfMemory = OutOfMemory

-- what is to be written is the verdict's and fit for its command, and why there is nothing is the verdict's too
abbrev pub FollowsTop : List (List ℕ) → Option Held → Result Output End → Type 0
FollowsTop words held (Ok output) = (given : Gives words held (Answers (Go output))) × IsFitFor given.0.command output
FollowsTop words held (Err (Usage fault)) = Gives words held (Faulty fault)
FollowsTop words held (Err (Phase (phase.Refused refusal))) = Gives words held (Answers (Halt (RefusedBy refusal)))
FollowsTop words held (Err (Phase (phase.ReadFault key))) = Gives words held (Answers (Halt (Reads key)))
FollowsTop words held (Err (Phase phase.OutOfMemory)) = Unit {0}
FollowsTop words held (Err OutOfMemory) = Unit {0}

-- a read fault has its cause
abbrev pub MeansEnd : List (List ℕ) → Option Held → ℕ → ℕ → ℕ → ℕ → Result Output End → Type 0
MeansEnd words held faults faults' opens opens' (Ok output) = Unit {0}
MeansEnd words held faults faults' opens opens' (Err (Usage fault)) = Unit {0}
MeansEnd words held faults faults' opens opens' (Err (Phase (phase.Refused refusal))) = Unit {0}
MeansEnd words held faults faults' opens opens' (Err (Phase (phase.ReadFault key))) =
    HasReadFault words held key faults faults' opens opens'
MeansEnd words held faults faults' opens opens' (Err (Phase phase.OutOfMemory)) = Unit {0}
MeansEnd words held faults faults' opens opens' (Err OutOfMemory) = Unit {0}

-- a fact where an input is refused
abbrev pub IfRefusedEnd : Result Output End → Type 0 → Type 0
IfRefusedEnd (Ok output) fact = Unit {0}
IfRefusedEnd (Err (Usage fault)) fact = Unit {0}
IfRefusedEnd (Err (Phase (phase.Refused refusal))) fact = fact
IfRefusedEnd (Err (Phase (phase.ReadFault key))) fact = Unit {0}
IfRefusedEnd (Err (Phase phase.OutOfMemory)) fact = Unit {0}
IfRefusedEnd (Err OutOfMemory) fact = Unit {0}
