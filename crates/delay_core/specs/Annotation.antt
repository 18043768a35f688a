-- The verdict on a design: its inputs are read and linked, its SPEF file is read, and it gets its delays.
use Rattle.std.specs.Prelude.{◌≡◌, ℕ, ◌+◌, ◌==◌, ◌⊎◌, if◌then◌else◌, List, [], ◌∷◌, ◌++◌, slice_get, Option, Some, Result, Ok, Err}
use Rattle.edge_io.specs.Counts.{Rose, RoseBy}
use Rattle.edge_io.specs.Holding.{Held, TellsMissing}
use Rattle.spef_nets.specs.Sections.{Corners}
use Rattle.verdict_phases.specs.Phases.{Stop, RefusedBy, Step, Go, Halt}
use Rattle.design_phases.specs.DesignReading.{ReadsNetlistFile, ReadInputs, LinkedDesign, ReadsInputs, LinksInputs, input_key}
use Rattle.wire_phases.specs.SpefPhases.{DesignNets, ReadsNets, ReadsSpefFile}
use Rattle.refusals.specs.declared.refusal.FileKey.{FileKey}
use Rattle.refusals.specs.declared.refusal.FileKey.TheVariants.{Spef}
use Rattle.refusals.specs.declared.refusal.Refusal.{Refusal}
use Rattle.delay_core.specs.AnnotatedDesigns.{AnnotatedDesign, DesignDelays, with_delays_of}
use Rattle.delay_core.specs.DesignTiming.{TimesDesign}
use Rattle.delay_core.specs.declared.settings.Files.{Files}
use Rattle.delay_core.specs.declared.settings.Settings.{Settings}

-- the sections of a SPEF file's bytes are read at these corners, and the design gets its delays from them
pub data TimesFromText {I : Type 0} (corners : Corners I) (design : LinkedDesign) (bytes : List ℕ) (settings : Settings)
    : Result DesignDelays Refusal → Type 0 where
  at_reading : (refusal : Refusal) → ReadsNets corners bytes (Err refusal) → TimesFromText corners design bytes settings (Err refusal)
  of_sections : (nets : DesignNets) (answer : Result DesignDelays Refusal) → ReadsNets corners bytes (Ok nets)
      → TimesDesign corners.count design nets.nets settings answer → TimesFromText corners design bytes settings answer

-- The inputs are linked, the SPEF file of that name is read, and the design gets its delays: no SPEF file is read where the design is
-- refused.
pub data AnnotatesFrom {I : Type 0} (held : Option Held) (corners : Corners I) (inputs : ReadInputs) (spef : List ℕ) (settings : Settings)
    : Step Refusal FileKey AnnotatedDesign → Type 0 where
  at_link : (refusal : Refusal) → LinksInputs inputs settings.top (Err refusal)
      → AnnotatesFrom held corners inputs spef settings (Halt (RefusedBy refusal))
  at_spef : (design : LinkedDesign) (why : Stop Refusal FileKey) → LinksInputs inputs settings.top (Ok design)
      → ReadsSpefFile held spef (Halt why) → AnnotatesFrom held corners inputs spef settings (Halt why)
  at_timing : (design : LinkedDesign) (bytes : List ℕ) (refusal : Refusal) → LinksInputs inputs settings.top (Ok design)
      → ReadsSpefFile held spef (Go bytes) → TimesFromText corners design bytes settings (Err refusal)
      → AnnotatesFrom held corners inputs spef settings (Halt (RefusedBy refusal))
  with_delays : (design : LinkedDesign) (bytes : List ℕ) (delays : DesignDelays) → LinksInputs inputs settings.top (Ok design)
      → ReadsSpefFile held spef (Go bytes) → TimesFromText corners design bytes settings (Ok delays)
      → AnnotatesFrom held corners inputs spef settings (Go (with_delays_of design.netlist design.cells delays))

-- the netlist is read, then the other inputs, and then the rest
pub data Annotates {I : Type 0} (held : Option Held) (corners : Corners I) (files : Files) (settings : Settings)
    : Step Refusal FileKey AnnotatedDesign → Type 0 where
  at_netlist : (why : Stop Refusal FileKey) → ReadsNetlistFile held files.netlist (Halt why)
      → Annotates held corners files settings (Halt why)
  at_inputs : (bytes : List ℕ) (why : Stop Refusal FileKey) → ReadsNetlistFile held files.netlist (Go bytes)
      → ReadsInputs held corners.count bytes settings.top files.libraries (Halt why) → Annotates held corners files settings (Halt why)
  at_design : (bytes : List ℕ) (inputs : ReadInputs) (why : Stop Refusal FileKey) → ReadsNetlistFile held files.netlist (Go bytes)
      → ReadsInputs held corners.count bytes settings.top files.libraries (Go inputs)
      → AnnotatesFrom held corners inputs files.spef settings (Halt why) → Annotates held corners files settings (Halt why)
  is_annotated : (bytes : List ℕ) (inputs : ReadInputs) (annotated : AnnotatedDesign)
      → ReadsNetlistFile held files.netlist (Go bytes)
      → ReadsInputs held corners.count bytes settings.top files.libraries (Go inputs)
      → AnnotatesFrom held corners inputs files.spef settings (Go annotated) → Annotates held corners files settings (Go annotated)

-- the names of the files in the order in which they are read
abbrev pub files_read : Files → List (List ℕ)
files_read files = files.netlist ∷ (files.libraries ++ files.spef ∷ [])

-- the key of a file, by how many are read before it
abbrev pub key_of_file : ℕ → ℕ → FileKey
key_of_file corners before = if before == corners + 1 then Spef else input_key corners before

-- A fault at one of the files has its cause: the count of faults rose, or the shelf tells that it does not hold the file. The files up to
-- this one were opened.
pub record IsAnnotationFault (held : Option Held) (corners : ℕ) (files : Files) (faults faults' opens opens' : ℕ)
    (key : FileKey) : Type 0 where
  pub before : ℕ
  pub name : List ℕ
  pub named : slice_get (files_read files) before ≡ Some name
  pub keyed : key ≡ key_of_file corners before
  pub cause : Rose faults faults' ⊎ TellsMissing held name
  pub opened : RoseBy (before + 1) opens opens'

-- a fault at the SPEF file, where no other is read
pub record IsSpefFault (held : Option Held) (spef : List ℕ) (faults faults' opens opens' : ℕ) (key : FileKey) : Type 0 where
  pub keyed : key ≡ Spef
  pub cause : Rose faults faults' ⊎ TellsMissing held spef
  pub opened : RoseBy 1 opens opens'
