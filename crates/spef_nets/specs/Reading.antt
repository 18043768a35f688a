-- The sections of a SPEF file (IEEE 1481) are read one after another.
use Rattle.std.specs.Prelude.{◌≡◌, ℕ, ◌<◌, List, length, map, slice_get, Some}
use Rattle.spef_text.specs.Entries.{Section}
use Rattle.spef_text.specs.SpefFiles.{SpefText}
use Rattle.spef_text.specs.Heads.{HeadText, IsHeadOf}
use Rattle.spef_nets.specs.Faults.{nets_before, IsFaultless}

-- no section in front of this place has a fault
abbrev pub AreFaultlessBefore : SpefText → HeadText → ℕ → Type 0
AreFaultlessBefore file head place = (other : ℕ) (section : Section) → other < place → slice_get file.reading.sections other ≡ Some section
    → IsFaultless file head other section

-- the sections have been read up to here: they name these nets, and have no fault
pub record IsReading (file : SpefText) (head : HeadText) (nets : List (List ℕ)) : Type 0 where
  pub of_file : IsHeadOf file head
  pub named : map Some nets ≡ nets_before file (length nets)
  pub faultless : AreFaultlessBefore file head (length nets)
