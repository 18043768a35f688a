-- How many steps the rows of a SPEF file take at the most: the work that its nets give.
use Rattle.std.specs.Prelude.{ℕ, ◌+◌, ◌≤◌, List, Ok}
use Rattle.std.specs.List.{sum_by}
use Rattle.spef_text.specs.SpefFiles.{SpefText}
use Rattle.spef_text.specs.Heads.{HeadText}
use Rattle.spef_nets.specs.NetElements.{NetElements}
use Rattle.spef_nets.specs.Sections.{Corners}
use Rattle.wire_phases.specs.NetRows.{most_steps}
use Rattle.wire_phases.specs.SpefPhases.{ParsesSpef, HeadsSpef, NetsSpef}

-- the most steps of these nets at so many corners
abbrev pub total_steps : ℕ → List NetElements → ℕ
total_steps count nets = sum_by (most_steps count) nets

-- the work of the sections of a file at these corners: none before all are read, and then that of their nets
pub data SectionsWork {I : Type 0} (corners : Corners I) (file : SpefText) (head : HeadText) : ℕ → Type 0 where
  no_sections : SectionsWork corners file head 0
  of_sections : (nets : List NetElements) → NetsSpef corners file head (Ok nets)
      → SectionsWork corners file head (total_steps corners.count nets)

-- the work of a SPEF file's bytes at these corners: none before its head is read, and then that of its sections
pub data TextWork {I : Type 0} (corners : Corners I) (bytes : List ℕ) : ℕ → Type 0 where
  no_head : TextWork corners bytes 0
  of_head : {work : ℕ} (file : SpefText) (head : HeadText) → ParsesSpef bytes (Ok file) → HeadsSpef file (Ok head)
      → SectionsWork corners file head work → TextWork corners bytes work

-- a count rose by no more than a work
pub record IsWithin (Work : ℕ → Type 0) (before after : ℕ) : Type 0 where
  pub work : ℕ
  pub given : Work work
  pub bound : after ≤ before + work
