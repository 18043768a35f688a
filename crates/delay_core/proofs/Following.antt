-- An answer that is handed on follows the phases around it.
use Rattle.std.proofs.Common.{◌≡◌, ℕ, List, Option, Result, Ok, Err, sym, subst}
use Rattle.std.specs.Prelude.{IsTrue, IsErrAnd}
use Rattle.edge_io.specs.Holding.{Held}
use Rattle.spef_nets.specs.NetElements.{NetElements}
use Rattle.spef_nets.specs.Sections.{Corners}
use Rattle.spef_text.specs.Heads.{HeadText}
use Rattle.spef_text.specs.SpefFiles.{SpefText}
use Rattle.verdict_phases.specs.Lifting.{IsLifted}
use Rattle.verdict_phases.specs.Phases.{Stop, RefusedBy, Reads, Step, Go, Halt, Follows, FollowsNoFile}
use Rattle.verdict_phases.specs.declared.ends.NoFileEnd.{NoFileEnd}
use Rattle.verdict_phases.specs.declared.ends.NoFileEnd.TheVariants as no_file
use Rattle.verdict_phases.specs.declared.ends.PhaseEnd.{PhaseEnd}
use Rattle.verdict_phases.specs.declared.ends.PhaseEnd.TheVariants as phase
use Rattle.net_delays.specs.NetTimes.{NetTimes, Fits}
use Rattle.design_phases.specs.DesignReading.{LinkedDesign, ReadsDesign, with_design}
use Rattle.design_phases.specs.DesignReading.{at_netlist as design_at_netlist, at_inputs as design_at_inputs, at_design as design_at_design}
use Rattle.refusals.specs.Refused.{OnRefusal, AtReadFault}
use Rattle.wire_phases.specs.SpefPhases.{ParsesSpef, HeadsSpef, NetsSpef, at_sections, through, ReadsSpefFile}
use Rattle.refusals.specs.EarlyRefusals.{is_early, OnEarly}
use Rattle.refusals.specs.declared.refusal.FileKey.{FileKey}
use Rattle.refusals.specs.declared.refusal.Refusal.{Refusal}
use Rattle.delay_core.specs.AnnotatedDesigns.{AnnotatedDesign, DesignDelays, with_delays_of}
use Rattle.delay_core.specs.Annotation.{TimesFromText, at_reading, of_sections, AnnotatesFrom, at_link, at_spef, at_timing, with_delays, Annotates, at_netlist, at_inputs, at_design, is_annotated}
use Rattle.delay_core.specs.DelayPhase.{FindsDelays}
use Rattle.delay_core.specs.DesignTiming.{net_inputs, TimesDesign, at_delays, at_slews, with_rows}
use Rattle.delay_core.specs.TimingHalves.{FindsNets, by_sections, FindsFileNets, ReadsNetTimes, at_file, at_nets, are_read, TimesNets, stops_at_slews, gets_rows, AnnotatesDesign}
use Rattle.delay_core.specs.TimingHalves.{at_sections as found_at_sections}
use Rattle.delay_core.specs.declared.settings.Files.{Files}
use Rattle.delay_core.specs.declared.settings.Settings.{Settings}
use Rattle.delay_core.proofs.Agreeing.{delays_fit}

-- a fact of the refusal of a phase that reads no file, handed on
on_refusal : (A B : Type 0) (end : NoFileEnd Refusal) (P : Refusal → Type 0) → OnRefusal {A = A} (Err end) P → OnRefusal {A = B} (Err end) P
on_refusal A B (no_file.Refused refusal) P holds = holds
on_refusal A B no_file.OutOfMemory P holds = tt

pub refusal_on : (A B : Type 0) (result : Result B (NoFileEnd Refusal)) (end : NoFileEnd Refusal) (P : Refusal → Type 0) → IsErrAnd result (λ other. other ≡ end) → OnRefusal {A = A} (Err end) P → OnRefusal result P
refusal_on A B (Ok value) end P is holds = tt
refusal_on A B (Err other) end P is holds = on_refusal A B other P (subst (λ (e : NoFileEnd Refusal). OnRefusal {A = A} (Err e) P) (sym is) holds)

-- and as one of a phase that may read files: it is no read fault
pub lifted_early : (A B : Type 0) (result : Result B (PhaseEnd Refusal FileKey)) (end : NoFileEnd Refusal) (fact : Type 0) → IsErrAnd result (λ other. IsLifted end other)
    → OnRefusal {A = A} (Err end) (λ refusal. IsTrue (is_early refusal) → fact) → OnEarly result fact
lifted_early A B (Ok value) end fact is holds = tt
lifted_early A B (Err other) (no_file.Refused refusal) fact is holds = subst (λ (e : PhaseEnd Refusal FileKey). OnEarly {A = B} (Err e) fact) (sym is) holds
lifted_early A B (Err other) no_file.OutOfMemory fact is holds = subst (λ (e : PhaseEnd Refusal FileKey). OnEarly {A = B} (Err e) fact) (sym is) tt

pub lifted_no_fault : (B : Type 0) (result : Result B (PhaseEnd Refusal FileKey)) (end : NoFileEnd Refusal) (Q : FileKey → Type 0) → IsErrAnd result (λ other. IsLifted end other) → AtReadFault result Q
lifted_no_fault B (Ok value) end Q is = tt
lifted_no_fault B (Err other) (no_file.Refused refusal) Q is = subst (λ (e : PhaseEnd Refusal FileKey). AtReadFault {A = B} (Err e) Q) (sym is) tt
lifted_no_fault B (Err other) no_file.OutOfMemory Q is = subst (λ (e : PhaseEnd Refusal FileKey). AtReadFault {A = B} (Err e) Q) (sym is) tt

-- a refusal of a phase that reads no file and never refuses early, handed on
pub lifted_late : (A B : Type 0) (result : Result B (PhaseEnd Refusal FileKey)) (end : NoFileEnd Refusal) (P : Result A Refusal → Type 0) (fact : Type 0) → IsErrAnd result (λ other. IsLifted end other) → FollowsNoFile P (Err end)
    → ((refusal : Refusal) → P (Err refusal) → IsTrue (is_early refusal) → ⊥) → OnEarly result fact
lifted_late A B (Ok value) end P fact is holds late = tt
lifted_late A B (Err other) (no_file.Refused refusal) P fact is holds late = subst (λ (e : PhaseEnd Refusal FileKey). OnEarly {A = B} (Err e) fact) (sym is) (λ early. absurd (late refusal holds early))
lifted_late A B (Err other) no_file.OutOfMemory P fact is holds late = subst (λ (e : PhaseEnd Refusal FileKey). OnEarly {A = B} (Err e) fact) (sym is) tt

-- the loads and the Elmore sums come behind the sections of the text
pub sections_refused : {I : Type 0} (corners : Corners I) (design : LinkedDesign) (settings : Settings) (file : SpefText) (head : HeadText) (refusal : Refusal) → NetsSpef corners file head (Err refusal)
    → FindsFileNets corners design file head settings (Err refusal)
sections_refused corners design settings file head refusal says = λ bytes parses heads. found_at_sections refusal (at_sections file head refusal parses heads says)

sections_found : {I : Type 0} (corners : Corners I) (design : LinkedDesign) (settings : Settings) (file : SpefText) (head : HeadText) (nets : List NetElements) (answer : Result NetTimes Refusal) → NetsSpef corners file head (Ok nets)
    → FindsDelays (net_inputs corners.count design nets settings) settings.missing answer → FindsFileNets corners design file head settings answer
sections_found corners design settings file head nets answer says finds =
    λ bytes parses heads. by_sections (record { design = head.design; nets = nets }) answer (through file head nets parses heads says) finds

pub sections_follow : {I : Type 0} (corners : Corners I) (design : LinkedDesign) (settings : Settings) (file : SpefText) (head : HeadText) (nets : List NetElements) (result : Result NetTimes (NoFileEnd Refusal)) → NetsSpef corners file head (Ok nets)
    → FollowsNoFile (FindsDelays (net_inputs corners.count design nets settings) settings.missing) result → FollowsNoFile (FindsFileNets corners design file head settings) result
sections_follow corners design settings file head nets (Ok times) says finds = sections_found corners design settings file head nets (Ok times) says finds
sections_follow corners design settings file head nets (Err (no_file.Refused refusal)) says finds = sections_found corners design settings file head nets (Err refusal) says finds
sections_follow corners design settings file head nets (Err no_file.OutOfMemory) says finds = tt

-- and those of the file are those of its bytes
pub text_follows : {I : Type 0} (corners : Corners I) (design : LinkedDesign) (bytes : List ℕ) (settings : Settings) (file : SpefText) (head : HeadText) (result : Result NetTimes (NoFileEnd Refusal)) → ParsesSpef bytes (Ok file)
    → HeadsSpef file (Ok head) → FollowsNoFile (FindsFileNets corners design file head settings) result → FollowsNoFile (FindsNets corners design bytes settings) result
text_follows corners design bytes settings file head (Ok times) parses heads finds = finds bytes parses heads
text_follows corners design bytes settings file head (Err (no_file.Refused refusal)) parses heads finds = finds bytes parses heads
text_follows corners design bytes settings file head (Err no_file.OutOfMemory) parses heads finds = tt

module _ {I : Type 0} (held : Option Held) (corners : Corners I) (design : LinkedDesign) (spef : List ℕ) (settings : Settings) where
  -- the bytes of the SPEF file, as they are lent
  pub nets_stop : (text bytes : List ℕ) (refusal : Refusal) → ReadsSpefFile held spef (Go text) → bytes ≡ text → FindsNets corners design bytes settings (Err refusal)
      → ReadsNetTimes held corners design spef settings (Halt (RefusedBy refusal))
  nets_stop text bytes refusal reads is finds = at_nets text refusal reads (subst (λ (b : List ℕ). FindsNets corners design b settings (Err refusal)) is finds)

  pub nets_go : (text bytes : List ℕ) (nets : NetTimes) → ReadsSpefFile held spef (Go text) → bytes ≡ text → FindsNets corners design bytes settings (Ok nets) → ReadsNetTimes held corners design spef settings (Go nets)
  nets_go text bytes nets reads is finds = are_read text nets reads (subst (λ (b : List ℕ). FindsNets corners design b settings (Ok nets)) is finds)

  -- what is found fits the netlist
  found_fit : (bytes : List ℕ) (nets : NetTimes) → FindsNets corners design bytes settings (Ok nets) → Fits design.netlist nets
  found_fit bytes _ (by_sections sections (Ok nets) reads finds) = delays_fit (net_inputs corners.count design sections.nets settings) settings.missing nets finds

  pub read_fit : (nets : NetTimes) → ReadsNetTimes held corners design spef settings (Go nets) → Fits design.netlist nets
  read_fit _ (are_read bytes nets reads finds) = found_fit bytes nets finds

  -- where the nets have no loads and Elmore sums, the design has no delays
  nets_refused : (bytes : List ℕ) (refusal : Refusal) → FindsNets corners design bytes settings (Err refusal) → TimesFromText corners design bytes settings (Err refusal)
  nets_refused bytes _ (found_at_sections refusal reads) = at_reading refusal reads
  nets_refused bytes _ (by_sections sections (Err refusal) reads finds) = of_sections sections (Err refusal) reads (at_delays refusal finds)

  pub unread : (why : Stop Refusal FileKey) → ReadsNetTimes held corners design spef settings (Halt why) → AnnotatesDesign held corners design spef settings (Halt why)
  unread _ (at_file why reads) = λ inputs links. at_spef design why links reads
  unread _ (at_nets bytes refusal reads finds) = λ inputs links. at_timing design bytes refusal links reads (nets_refused bytes refusal finds)

  -- the slews and the rows come behind them
  sections_timed : (sections : List NetElements) (nets : NetTimes) (answer : Result DesignDelays Refusal) → FindsDelays (net_inputs corners.count design sections settings) settings.missing (Ok nets)
      → TimesNets corners.count design nets settings answer → TimesDesign corners.count design sections settings answer
  sections_timed sections nets _ finds (stops_at_slews refusal found) = at_slews nets refusal finds found
  sections_timed sections nets _ finds (gets_rows slews found) = with_rows nets slews finds found

  nets_timed : (bytes : List ℕ) (nets : NetTimes) (answer : Result DesignDelays Refusal) → FindsNets corners design bytes settings (Ok nets) → TimesNets corners.count design nets settings answer
      → TimesFromText corners design bytes settings answer
  nets_timed bytes _ answer (by_sections sections (Ok nets) reads finds) times = of_sections sections answer reads (sections_timed sections.nets nets answer finds times)

  pub untimed : (nets : NetTimes) (refusal : Refusal) → ReadsNetTimes held corners design spef settings (Go nets) → TimesNets corners.count design nets settings (Err refusal)
      → AnnotatesDesign held corners design spef settings (Halt (RefusedBy refusal))
  untimed _ refusal (are_read bytes nets reads finds) times = λ inputs links. at_timing design bytes refusal links reads (nets_timed bytes nets (Err refusal) finds times)

  pub timed : (nets : NetTimes) (delays : DesignDelays) → ReadsNetTimes held corners design spef settings (Go nets) → TimesNets corners.count design nets settings (Ok delays)
      → AnnotatesDesign held corners design spef settings (Go (with_delays_of design.netlist design.cells delays))
  timed _ delays (are_read bytes nets reads finds) times = λ inputs links. with_delays design bytes delays links reads (nets_timed bytes nets (Ok delays) finds times)

-- a design is read, on a shelf that holds the same before and behind it, and then it gets its delays
module _ {I : Type 0} (held : Option Held) (corners : Corners I) (files : Files) (settings : Settings) where
  pub design_refused : (why : Stop Refusal FileKey) → ReadsDesign held corners.count files.netlist settings.top files.libraries (Halt why) → Annotates held corners files settings (Halt why)
  design_refused _ (design_at_netlist why reads) = at_netlist why reads
  design_refused _ (design_at_inputs bytes why reads are) = at_inputs bytes why reads are
  design_refused _ (design_at_design bytes inputs refusal reads are links) = at_design bytes inputs (RefusedBy refusal) reads are (at_link refusal links)

  pub design_stops : (held' : Option Held) (design : LinkedDesign) (why : Stop Refusal FileKey) → held' ≡ held → ReadsDesign held corners.count files.netlist settings.top files.libraries (Go design)
      → AnnotatesDesign held' corners design files.spef settings (Halt why) → Annotates held corners files settings (Halt why)
  design_stops held' _ why same (with_design bytes inputs design reads are links) stops =
      at_design bytes inputs why reads are (subst (λ (h : Option Held). AnnotatesFrom h corners inputs files.spef settings (Halt why)) same (stops inputs links))

  pub design_goes : (held' : Option Held) (design : LinkedDesign) (annotated : AnnotatedDesign) → held' ≡ held → ReadsDesign held corners.count files.netlist settings.top files.libraries (Go design)
      → AnnotatesDesign held' corners design files.spef settings (Go annotated) → Annotates held corners files settings (Go annotated)
  design_goes held' _ annotated same (with_design bytes inputs design reads are links) goes =
      is_annotated bytes inputs annotated reads are (subst (λ (h : Option Held). AnnotatesFrom h corners inputs files.spef settings (Go annotated)) same (goes inputs links))
