-- How a linked design gets its delays, in two halves: the loads and the Elmore sums of its nets come from a SPEF file, and then its slews
-- and its rows come from these alone.
use Rattle.std.specs.Prelude.{ℕ, ◌*◌, List, Option, Result, Ok, Err}
use Rattle.edge_io.specs.Holding.{Held}
use Rattle.spef_nets.specs.Sections.{Corners}
use Rattle.spef_text.specs.Heads.{HeadText}
use Rattle.spef_text.specs.SpefFiles.{SpefText}
use Rattle.net_delays.specs.NetTimes.{NetTimes}
use Rattle.slew_order.specs.Slews.{SlewTables}
use Rattle.verdict_phases.specs.Phases.{Stop, RefusedBy, Step, Go, Halt}
use Rattle.design_phases.specs.DesignReading.{ReadInputs, LinkedDesign, LinksInputs}
use Rattle.wire_phases.specs.SpefPhases.{DesignNets, ParsesSpef, HeadsSpef, ReadsNets, ReadsSpefFile}
use Rattle.refusals.specs.declared.refusal.FileKey.{FileKey}
use Rattle.refusals.specs.declared.refusal.Refusal.{Refusal}
use Rattle.delay_core.specs.AnnotatedDesigns.{AnnotatedDesign, DesignDelays, with_delays_of}
use Rattle.delay_core.specs.Annotation.{AnnotatesFrom}
use Rattle.delay_core.specs.AnnotationWork.{edges_of, BytesWork, InputsWork}
use Rattle.delay_core.specs.DelayPhase.{FindsDelays}
use Rattle.delay_core.specs.DesignTiming.{net_inputs, slew_source, delays_by}
use Rattle.delay_core.specs.SlewPhase.{FindsSlews}
use Rattle.delay_core.specs.declared.settings.Settings.{Settings}

-- the sections of a SPEF file's bytes are read at these corners, and the nets get their loads and Elmore sums from them
pub data FindsNets {I : Type 0} (corners : Corners I) (design : LinkedDesign) (bytes : List ℕ) (settings : Settings)
    : Result NetTimes Refusal → Type 0 where
  at_sections : (refusal : Refusal) → ReadsNets corners bytes (Err refusal) → FindsNets corners design bytes settings (Err refusal)
  by_sections : (nets : DesignNets) (answer : Result NetTimes Refusal) → ReadsNets corners bytes (Ok nets)
      → FindsDelays (net_inputs corners.count design nets.nets settings) settings.missing answer
      → FindsNets corners design bytes settings answer

-- the same of a file whose grammar and head are read, from whichever bytes
abbrev pub FindsFileNets : {I : Type 0} → Corners I → LinkedDesign → SpefText → HeadText → Settings → Result NetTimes Refusal → Type 0
FindsFileNets corners design file head settings answer =
    (bytes : List ℕ) → ParsesSpef bytes (Ok file) → HeadsSpef file (Ok head) → FindsNets corners design bytes settings answer

-- the SPEF file of that name is read, and the nets get their loads and Elmore sums from it
pub data ReadsNetTimes {I : Type 0} (held : Option Held) (corners : Corners I) (design : LinkedDesign) (spef : List ℕ) (settings : Settings)
    : Step Refusal FileKey NetTimes → Type 0 where
  at_file : (why : Stop Refusal FileKey) → ReadsSpefFile held spef (Halt why) → ReadsNetTimes held corners design spef settings (Halt why)
  at_nets : (bytes : List ℕ) (refusal : Refusal) → ReadsSpefFile held spef (Go bytes)
      → FindsNets corners design bytes settings (Err refusal) → ReadsNetTimes held corners design spef settings (Halt (RefusedBy refusal))
  are_read : (bytes : List ℕ) (nets : NetTimes) → ReadsSpefFile held spef (Go bytes)
      → FindsNets corners design bytes settings (Ok nets) → ReadsNetTimes held corners design spef settings (Go nets)

-- the slews are found of these loads and Elmore sums, and then the rows
pub data TimesNets (count : ℕ) (design : LinkedDesign) (nets : NetTimes) (settings : Settings) : Result DesignDelays Refusal → Type 0 where
  stops_at_slews : (refusal : Refusal) → FindsSlews (slew_source count design nets settings) (Err refusal)
      → TimesNets count design nets settings (Err refusal)
  gets_rows : (slews : SlewTables) → FindsSlews (slew_source count design nets settings) (Ok slews)
      → TimesNets count design nets settings (Ok (delays_by count settings.top design nets slews))

-- the SPEF file is read, and the design gets its delays, from whichever inputs it was linked
abbrev pub AnnotatesDesign : {I : Type 0} → Option Held → Corners I → LinkedDesign → List ℕ → Settings
    → Step Refusal FileKey AnnotatedDesign → Type 0
AnnotatesDesign held corners design spef settings step =
    (inputs : ReadInputs) → LinksInputs inputs settings.top (Ok design) → AnnotatesFrom held corners inputs spef settings step

-- a step to the delays of a design, as one to the design with them
abbrev pub annotated_step : LinkedDesign → Step Refusal FileKey DesignDelays → Step Refusal FileKey AnnotatedDesign
annotated_step design (Go delays) = Go (with_delays_of design.netlist design.cells delays)
annotated_step design (Halt why) = Halt why

-- the same where the design and its delays are apart
abbrev pub ReadsDelays : {I : Type 0} → Option Held → Corners I → LinkedDesign → List ℕ → Settings
    → Step Refusal FileKey DesignDelays → Type 0
ReadsDelays held corners design spef settings step = AnnotatesDesign held corners design spef settings (annotated_step design step)

-- the work of a file whose grammar and head are read
abbrev pub FileWork : {I : Type 0} → Corners I → LinkedDesign → SpefText → HeadText → Settings → ℕ → Type 0
FileWork corners design file head settings work =
    (bytes : List ℕ) → ParsesSpef bytes (Ok file) → HeadsSpef file (Ok head) → BytesWork corners design bytes settings work

-- the work of these phases
abbrev pub DesignWork : {I : Type 0} → Option Held → Corners I → LinkedDesign → List ℕ → Settings → ℕ → Type 0
DesignWork held corners design spef settings work =
    (inputs : ReadInputs) → LinksInputs inputs settings.top (Ok design) → InputsWork held corners inputs spef settings work

-- the steps that the slews and the rows take at the most
abbrev pub slews_work : ℕ → LinkedDesign → ℕ
slews_work count design = 160 * (count * edges_of design)
