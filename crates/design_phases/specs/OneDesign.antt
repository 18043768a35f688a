-- That the inputs of a design have one answer, and so has the design that is linked of them.
use Rattle.std.specs.Prelude.{◌≡◌, ℕ, List, Option, Some, Result}
use Rattle.edge_io.specs.Holding.{Held}
use Rattle.verdict_phases.specs.Phases.{Go}
use Rattle.design_phases.specs.DesignReading.{ReadInputs, LinkedDesign, ReadsInputs, LinksInputs, ReadsDesign}
use Rattle.refusals.specs.OneStep.{HasOneAnswer}
use Rattle.refusals.specs.declared.refusal.Refusal.{Refusal}

-- the inputs of a netlist's bytes have one answer
abbrev pub OneInputs : Type 0
OneInputs = (held : Held) (corners : ℕ) (bytes top : List ℕ) (libraries : List (List ℕ))
    → HasOneAnswer (ReadsInputs (Some held) corners bytes top libraries)

-- inputs that were read have one answer: a linked design, or a refusal
abbrev pub OneLinking : Type 0
OneLinking = (held : Option Held) (corners : ℕ) (bytes top : List ℕ) (libraries : List (List ℕ)) (inputs : ReadInputs)
    (one other : Result LinkedDesign Refusal) → ReadsInputs held corners bytes top libraries (Go inputs)
    → LinksInputs inputs top one → LinksInputs inputs top other → one ≡ other

-- the files of a design have one answer
abbrev pub OneDesign : Type 0
OneDesign = (held : Held) (corners : ℕ) (file top : List ℕ) (libraries : List (List ℕ))
    → HasOneAnswer (ReadsDesign (Some held) corners file top libraries)
