-- The phases that read a SPEF file (IEEE 1481): its bytes, its grammar, its head, and what its sections say of their nets.
use Rattle.std.specs.Prelude.{◌≡◌, ℕ, List, All, Option, Result, Ok, Err}
use Rattle.edge_io.specs.Holding.{Held}
use Rattle.corner_set.specs.declared.pick.Pick.{Pick}
use Rattle.spef_text.specs.SpefFiles.{SpefText, Reads, LeavesSpef, HasForm}
use Rattle.spef_text.specs.Heads.{HeadText, IsHeadOf, IsHeadEnd}
use Rattle.spef_text.specs.declared.parsing.SpefEnd.TheVariants as grammar
use Rattle.spef_text.specs.declared.head_ends.HeadEnd.TheVariants as head
use Rattle.spef_nets.specs.NetElements.{NetElements, AreWhole}
use Rattle.spef_nets.specs.Sections.{Corners, AreNets}
use Rattle.spef_nets.specs.Faults.{AreFaultless, IsSectionEnd}
use Rattle.spef_nets.specs.declared.ends.SectionEnd.TheVariants as section
use Rattle.verdict_phases.specs.Phases.{Step}
use Rattle.refusals.specs.InputFiles.{ReadsInput}
use Rattle.refusals.specs.declared.refusal.FileKey.{FileKey}
use Rattle.refusals.specs.declared.refusal.FileKey.TheVariants.{Spef}
use Rattle.refusals.specs.declared.refusal.NumberKind.TheVariants.{BadUnit, BadNumber, ValueTooLarge}
use Rattle.refusals.specs.declared.refusal.IndexKind.TheVariants.{Unknown, Repeated}
use Rattle.refusals.specs.declared.refusal.Refusal.{Refusal}
use Rattle.refusals.specs.declared.refusal.Refusal.TheVariants.{SpefSyntax, SpefForm, SpefNumber, NameIndex, RepeatedNet, ForeignCoupling}

-- the SPEF file is read
abbrev pub ReadsSpefFile : Option Held → List ℕ → Step Refusal FileKey (List ℕ) → Type 0
ReadsSpefFile held name step = ReadsInput held Spef name step

-- the bytes are a SPEF file, or the token with which they leave its grammar, which may be a word for a form that is not read
pub data ParsesSpef (bytes : List ℕ) : Result SpefText Refusal → Type 0 where
  is_spef : (file : SpefText) → Reads bytes file → ParsesSpef bytes (Ok file)
  no_spef : (token : ℕ) → LeavesSpef bytes token → HasForm bytes (grammar.Syntax token) → ParsesSpef bytes (Err (SpefSyntax token))
  no_form : (word : List ℕ) (token : ℕ) → LeavesSpef bytes token → HasForm bytes (grammar.Form word token)
      → ParsesSpef bytes (Err (SpefForm word token))

-- the file has a head, or a unit or an index of it is no good
pub data HeadsSpef (file : SpefText) : Result HeadText Refusal → Type 0 where
  is_head : (head : HeadText) → IsHeadOf file head → HeadsSpef file (Ok head)
  bad_unit : (token : ℕ) → IsHeadEnd file (head.BadUnit token) → HeadsSpef file (Err (SpefNumber BadUnit token))
  repeated_index : (token : ℕ) → IsHeadEnd file (head.RepeatedIndex token) → HeadsSpef file (Err (NameIndex Repeated token))

-- one corner alone, at which the member of a triple counts that was picked
abbrev pub sole_corner : Pick → Corners (Unit {0})
sole_corner pick = record { count = 1; number = λ _. 0; member = λ _. pick }

-- a design's name, and its nets
pub record DesignNets : Type 0 where
  pub design : List ℕ
  pub nets : List NetElements

-- the sections have no fault and say this of their nets, each with its elements and no others, or they have a first fault
pub data NetsSpef {I : Type 0} (corners : Corners I) (file : SpefText) (head : HeadText) : Result (List NetElements) Refusal
    → Type 0 where
  are_nets : (nets : List NetElements) → AreFaultless file head → AreNets corners file head nets → All (AreWhole corners.count) nets
      → NetsSpef corners file head (Ok nets)
  unknown_index : (token : ℕ) → IsSectionEnd file head (section.UnknownIndex token)
      → NetsSpef corners file head (Err (NameIndex Unknown token))
  bad_number : (token : ℕ) → IsSectionEnd file head (section.BadNumber token)
      → NetsSpef corners file head (Err (SpefNumber BadNumber token))
  value_too_large : (token : ℕ) → IsSectionEnd file head (section.ValueTooLarge token)
      → NetsSpef corners file head (Err (SpefNumber ValueTooLarge token))
  repeated_net : (net : List ℕ) (token : ℕ) → IsSectionEnd file head (section.RepeatedNet net token)
      → NetsSpef corners file head (Err (RepeatedNet net))
  foreign_coupling : (net : List ℕ) (token : ℕ) → IsSectionEnd file head (section.ForeignCoupling net token)
      → NetsSpef corners file head (Err (ForeignCoupling net token))

-- what the bytes of a SPEF file say of their nets at these corners: its grammar, its head and its sections are read
pub data ReadsNets {I : Type 0} (corners : Corners I) (bytes : List ℕ) : Result DesignNets Refusal → Type 0 where
  at_grammar : (refusal : Refusal) → ParsesSpef bytes (Err refusal) → ReadsNets corners bytes (Err refusal)
  at_head : (file : SpefText) (refusal : Refusal) → ParsesSpef bytes (Ok file) → HeadsSpef file (Err refusal)
      → ReadsNets corners bytes (Err refusal)
  at_sections : (file : SpefText) (head : HeadText) (refusal : Refusal) → ParsesSpef bytes (Ok file) → HeadsSpef file (Ok head)
      → NetsSpef corners file head (Err refusal) → ReadsNets corners bytes (Err refusal)
  through : (file : SpefText) (head : HeadText) (nets : List NetElements) → ParsesSpef bytes (Ok file) → HeadsSpef file (Ok head)
      → NetsSpef corners file head (Ok nets) → ReadsNets corners bytes (Ok (record { design = head.design; nets = nets }))

-- the bytes of a SPEF file have one answer at these corners: nets, or a refusal
abbrev pub OneReading : {I : Type 0} → Corners I → Type 0
OneReading corners = (bytes : List ℕ) (one other : Result DesignNets Refusal) → ReadsNets corners bytes one
    → ReadsNets corners bytes other → one ≡ other
