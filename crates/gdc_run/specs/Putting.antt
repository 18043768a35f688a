-- Phases whose value is put into another one.
use Rattle.std.specs.Prelude.{◌≡◌}
use Rattle.verdict_phases.specs.Phases.{Step, Go, Halt}
use Rattle.refusals.specs.declared.refusal.FileKey.{FileKey}
use Rattle.refusals.specs.declared.refusal.Refusal.{Refusal}

-- the phases of which the value is put into what is answered
abbrev pub As : {A B : Type 0} → (A → B) → (Step Refusal FileKey A → Type 0) → Step Refusal FileKey B → Type 0
As {A} put phase (Go answer) = (value : A) × phase (Go value) × (answer ≡ put value)
As put phase (Halt why) = phase (Halt why)
