-- The files that are read, of which each has one text.
use Rattle.std.specs.Prelude.{ℕ, ◌^◌, List, Option, Some}
use Rattle.edge_io.specs.Holding.{Held}
use Rattle.verdict_phases.specs.FileReading.{ReadsFile}
use Rattle.verdict_phases.specs.Phases.{Step}
use Rattle.refusals.specs.OneStep.{HasOneAnswer}
use Rattle.refusals.specs.declared.refusal.FileKey.{FileKey}
use Rattle.refusals.specs.declared.refusal.LimitKind.TheVariants.{File}
use Rattle.refusals.specs.declared.refusal.Refusal.{Refusal}
use Rattle.refusals.specs.declared.refusal.Refusal.TheVariants.{Limit}

-- how many bytes of a file are read at the most
abbrev pub file_limit : ℕ
file_limit = 2 ^ 28

-- the file of a key is read
abbrev pub ReadsInput : Option Held → FileKey → List ℕ → Step Refusal FileKey (List ℕ) → Type 0
ReadsInput held key name step = ReadsFile file_limit held key (Limit (File key)) name step

-- the file of a key has one text, or one reason why it is not read
abbrev pub OneFile : Type 0
OneFile = (held : Held) (key : FileKey) (name : List ℕ)
    → HasOneAnswer (λ step. ReadsInput (Some held) key name step)
