-- That phases, one after another, have one answer.
use Rattle.std.specs.Prelude.{◌≡◌}
use Rattle.verdict_phases.specs.Phases.{Stop, RefusedBy, Unread, Reads, Step, Go, Halt}
use Rattle.refusals.specs.SameAnswers.{SameRefusal}
use Rattle.refusals.specs.declared.refusal.FileKey.{FileKey}
use Rattle.refusals.specs.declared.refusal.Refusal.{Refusal}

-- a stop decides, other than one at the reading of a file, where a fault of the outside may come or not
abbrev pub IsFinal : {R K : Type 0} → Stop R K → Type 0
IsFinal (RefusedBy refusal) = Unit {0}
IsFinal (Unread key) = Unit {0}
IsFinal (Reads key) = ⊥

abbrev pub IsDecided : {R K A : Type 0} → Step R K A → Type 0
IsDecided (Go value) = Unit {0}
IsDecided (Halt why) = IsFinal why

-- two stops are one, but for what is left free
abbrev pub SameStop : Stop Refusal FileKey → Stop Refusal FileKey → Type 0
SameStop (RefusedBy one) (RefusedBy other) = SameRefusal one other
SameStop (Unread one) (Unread other) = one ≡ other
SameStop (Reads one) (Reads other) = one ≡ other
SameStop _ _ = ⊥

-- two answers of phases are one, but for what is left free
abbrev pub SameStep : {A : Type 0} → Step Refusal FileKey A → Step Refusal FileKey A → Type 0
SameStep (Go one) (Go other) = one ≡ other
SameStep (Halt one) (Halt other) = SameStop one other
SameStep _ _ = ⊥

-- phases have one answer, but for what is left free, and the reading of a file aside
abbrev pub HasOneAnswer : {A : Type 0} → (Step Refusal FileKey A → Type 0) → Type 0
HasOneAnswer {A} phase = (one other : Step Refusal FileKey A) → phase one → phase other → IsDecided one → IsDecided other
    → SameStep one other
