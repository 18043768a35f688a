-- That the verdict is one: what two verdicts on the same words and on the same files have in common.
use Rattle.std.specs.Prelude.{◌≡◌, ℕ, List, Some}
use Rattle.edge_io.specs.Holding.{Held}
use Rattle.refusals.specs.OneStep.{IsDecided, SameStep}
use Rattle.gdc_run.specs.Verdict.{Verdict, Faulty, Answers, Gives}

abbrev pub IsDecidedVerdict : Verdict → Type 0
IsDecidedVerdict (Faulty fault) = Unit {0}
IsDecidedVerdict (Answers step) = IsDecided step

abbrev pub SameVerdict : Verdict → Verdict → Type 0
SameVerdict (Faulty one) (Faulty other) = one ≡ other
SameVerdict (Answers one) (Answers other) = SameStep one other
SameVerdict _ _ = ⊥

-- these words and what is held have one verdict, but for what is left free, and the reading of a file aside
abbrev pub HasOneVerdict : List (List ℕ) → Held → Type 0
HasOneVerdict words held = (one other : Verdict) → Gives words (Some held) one → Gives words (Some held) other → IsDecidedVerdict one
    → IsDecidedVerdict other → SameVerdict one other

-- the verdict is one
abbrev pub OneVerdict : Type 0
OneVerdict = (words : List (List ℕ)) (held : Held) → HasOneVerdict words held
