-- The rows of the wires of a SPEF file.
use Rattle.std.specs.Prelude.{ℕ, List, Result, Ok, Err}
use Rattle.sdf_writer.specs.SdfText.{SdfRows}
use Rattle.spef_text.specs.SpefFiles.{SpefText}
use Rattle.spef_text.specs.Heads.{HeadText}
use Rattle.spef_nets.specs.NetElements.{NetElements}
use Rattle.spef_nets.specs.Sections.{Corners}
use Rattle.wire_phases.specs.SpefPhases.{DesignNets, NetsSpef, ReadsNets}
use Rattle.wire_phases.specs.WireNets.{RowsOf}
use Rattle.refusals.specs.declared.refusal.Refusal.{Refusal}

-- the sections of a file are read at these corners, and their nets give rows: a fault of any section comes before a net that is refused
pub data SectionsGive {I : Type 0} (corners : Corners I) (file : SpefText) (head : HeadText) : Result SdfRows Refusal → Type 0 where
  faulty_section : (refusal : Refusal) → NetsSpef corners file head (Err refusal) → SectionsGive corners file head (Err refusal)
  of_nets : (nets : List NetElements) (answer : Result SdfRows Refusal) → NetsSpef corners file head (Ok nets)
      → RowsOf corners.count (record { design = head.design; nets = nets }) answer → SectionsGive corners file head answer

-- the bytes of a SPEF file are read at these corners, and its nets give rows
pub data TextGives {I : Type 0} (corners : Corners I) (bytes : List ℕ) : Result SdfRows Refusal → Type 0 where
  unread : (refusal : Refusal) → ReadsNets corners bytes (Err refusal) → TextGives corners bytes (Err refusal)
  of_design : (design : DesignNets) (answer : Result SdfRows Refusal) → ReadsNets corners bytes (Ok design)
      → RowsOf corners.count design answer → TextGives corners bytes answer
