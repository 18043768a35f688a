-- The verdict on a design is one, since that of each of its phases is.
use Rattle.std.proofs.Common.{◌≡◌, ℕ, ◌<◌, inl, List, Some, Result, Ok, Err, refl, ap₂, subst}
use Rattle.edge_io.specs.Holding.{Held}
use Rattle.name_table.specs.Names.{AreDistinct}
use Rattle.spef_nets.specs.NetElements.{NetElements, net_names}
use Rattle.spef_nets.specs.Sections.{Corners}
use Rattle.net_delays.specs.NetTimes.{NetTimes}
use Rattle.slew_order.specs.Slews.{SlewTables}
use Rattle.verdict_phases.specs.Phases.{RefusedBy, Go}
use Rattle.design_phases.specs.DesignReading.{ReadsNetlistFile, ReadInputs, LinkedDesign, ReadsInputs, LinksInputs}
use Rattle.refusals.specs.SameAnswers.{SameAnswer}
use Rattle.refusals.specs.OneStep.{HasOneAnswer}
use Rattle.wire_phases.specs.SpefPhases.{DesignNets, ReadsSpefFile}
use Rattle.refusals.specs.declared.refusal.FileKey.TheVariants.{Netlist, Spef}
use Rattle.refusals.specs.declared.refusal.Refusal.{Refusal}
use Rattle.wire_phases.proofs.NetsApart.{apart_nets}
use Rattle.refusals.specs.Refused.{WithoutFile}
use Rattle.refusals.proofs.OneChain.{Steps, Then, stops, goes, one_plain, one_then, one_made, one_by}
use Rattle.design_phases.proofs.OneDesign.{one_inputs, links_one}
use Rattle.wire_phases.proofs.OneNet.{AreNumbered}
use Rattle.wire_phases.proofs.OneSpefFile.{one_file_refusal, no_design_beside, one_design}
use Rattle.refusals.proofs.OneText.{one_file}
use Rattle.delay_core.specs.AnnotatedDesigns.{AnnotatedDesign, DesignDelays, with_delays_of}
use Rattle.delay_core.specs.Annotation.{TimesFromText, at_reading, of_sections, AnnotatesFrom, at_link, at_spef, at_timing, with_delays, Annotates, at_netlist, at_inputs, at_design, is_annotated}
use Rattle.delay_core.specs.DelayPhase.{FindsDelays}
use Rattle.delay_core.specs.DesignTiming.{net_inputs, slew_source, delays_by, TimesDesign, at_delays, at_slews, with_rows}
use Rattle.delay_core.specs.OneAnnotation.{OneAnnotation}
use Rattle.delay_core.specs.SlewPhase.{FindsSlews}
use Rattle.delay_core.specs.declared.settings.Files.{Files}
use Rattle.delay_core.specs.declared.settings.Settings.{Settings}
use Rattle.delay_core.proofs.OneDelays.{one_delays_answer}
use Rattle.delay_core.proofs.OneSlews.{one_slews_answer}

-- ---- the delays of a linked design

module _ (count : ℕ) (some : 0 < count) (design : LinkedDesign) (sections : List NetElements) (apart : AreDistinct (net_names sections)) (settings : Settings) where
  abbrev Finds : Result NetTimes Refusal → Type 0
  Finds answer = FindsDelays (net_inputs count design sections settings) settings.missing answer

  abbrev FindsFor : NetTimes → Result SlewTables Refusal → Type 0
  FindsFor nets answer = FindsSlews (slew_source count design nets settings) answer

  one_finding : (one other : Result NetTimes Refusal) → Finds one → Finds other → SameAnswer one other
  one_finding one other r s = one_delays_answer (net_inputs count design sections settings) settings.missing one other apart some r s

  -- slews over two tables of loads and Elmore sums, which are one
  slews_over : (one other : NetTimes) (some_slews more : Result SlewTables Refusal) → Finds (Ok one) → Finds (Ok other) → FindsFor one some_slews → FindsFor other more → SameAnswer some_slews more
  slews_over one other some_slews more m n r s =
      one_slews_answer (slew_source count design one settings) some_slews more r (subst (λ (nets : NetTimes). FindsFor nets more) (one_finding (Ok other) (Ok one) n m) s)

  one_timing : (one other : Result DesignDelays Refusal) → TimesDesign count design sections settings one → TimesDesign count design sections settings other → SameAnswer one other
  one_timing _ _ (at_delays f m) (at_delays g n) = one_finding (Err f) (Err g) m n
  one_timing _ _ (at_delays f m) (at_slews nets g n s) = absurd (one_finding (Err f) (Ok nets) m n)
  one_timing _ _ (at_delays f m) (with_rows nets slews n s) = absurd (one_finding (Err f) (Ok nets) m n)
  one_timing _ _ (at_slews nets g n s) (at_delays f m) = absurd (one_finding (Err f) (Ok nets) m n)
  one_timing _ _ (with_rows nets slews n s) (at_delays f m) = absurd (one_finding (Err f) (Ok nets) m n)
  one_timing _ _ (at_slews nets f m r) (at_slews more g n s) = slews_over nets more (Err f) (Err g) m n r s
  one_timing _ _ (at_slews nets f m r) (with_rows more slews n s) = absurd (slews_over nets more (Err f) (Ok slews) m n r s)
  one_timing _ _ (with_rows more slews n s) (at_slews nets f m r) = absurd (slews_over nets more (Err f) (Ok slews) m n r s)
  one_timing _ _ (with_rows nets slews m r) (with_rows more others n s) =
      ap₂ (λ t w. delays_by count settings.top design t w) (one_finding (Ok nets) (Ok more) m n) (slews_over nets more (Ok slews) (Ok others) m n r s)

-- ---- the bytes of a SPEF file

module _ {I : Type 0} (corners : Corners I) (numbered : AreNumbered corners) (some : 0 < corners.count) (settings : Settings) where
  one_text_timing : (design : LinkedDesign) (bytes : List ℕ) (one other : Result DesignDelays Refusal) → TimesFromText corners design bytes settings one → TimesFromText corners design bytes settings other → SameAnswer one other
  one_text_timing design bytes _ _ (at_reading f r) (at_reading g s) = inl (one_file_refusal corners bytes f g r s)
  one_text_timing design bytes _ _ (at_reading f r) (of_sections nets answer s times) = absurd (no_design_beside corners bytes f nets r s)
  one_text_timing design bytes _ _ (of_sections nets answer s times) (at_reading f r) = absurd (no_design_beside corners bytes f nets r s)
  one_text_timing design bytes one other (of_sections nets _ r times) (of_sections more _ s also) =
      one_timing corners.count some design nets.nets (apart_nets corners bytes nets r) settings one other times
      (subst (λ (d : DesignNets). TimesDesign corners.count design d.nets settings other) (one_design corners numbered bytes more nets s r) also)

  -- ---- the phases behind the inputs

  module _ (held : Held) where
    abbrev annotated_by : LinkedDesign → DesignDelays → AnnotatedDesign
    annotated_by design delays = with_delays_of design.netlist design.cells delays

    abbrev Timed : LinkedDesign → List ℕ → Steps AnnotatedDesign → Type 0
    Timed design bytes step = Then (WithoutFile (TimesFromText corners design bytes settings)) (λ delays end. end ≡ Go (annotated_by design delays)) step

    abbrev Lent : List ℕ → LinkedDesign → Steps AnnotatedDesign → Type 0
    Lent spef design step = Then (ReadsSpefFile (Some held) spef) (Timed design) step

    module _ (inputs : ReadInputs) (spef : List ℕ) where
      from_view : (step : Steps AnnotatedDesign) → AnnotatesFrom (Some held) corners inputs spef settings step → Then (WithoutFile (LinksInputs inputs settings.top)) (Lent spef) step
      from_view _ (at_link refusal links) = stops (RefusedBy refusal) links refl
      from_view _ (at_spef design why links reads) = goes design links (stops why reads refl)
      from_view _ (at_timing design bytes refusal links reads times) = goes design links (goes bytes reads (stops (RefusedBy refusal) times refl))
      from_view _ (with_delays design bytes delays links reads times) = goes design links (goes bytes reads (goes delays times refl))

      one_lent : (design : LinkedDesign) → HasOneAnswer (Lent spef design)
      one_lent design = one_then (ReadsSpefFile (Some held) spef) (Timed design) (one_file held Spef spef)
          (λ bytes reads. one_then (WithoutFile (TimesFromText corners design bytes settings)) (λ delays end. end ≡ Go (annotated_by design delays))
          (one_plain (TimesFromText corners design bytes settings) (one_text_timing design bytes)) (λ delays times. one_made (annotated_by design delays)))

      one_from : HasOneAnswer (WithoutFile (LinksInputs inputs settings.top)) → HasOneAnswer (AnnotatesFrom (Some held) corners inputs spef settings)
      one_from links = one_by (AnnotatesFrom (Some held) corners inputs spef settings) (Then (WithoutFile (LinksInputs inputs settings.top)) (Lent spef)) from_view
          (one_then (WithoutFile (LinksInputs inputs settings.top)) (Lent spef) links (λ design is. one_lent design))

    -- ---- the files

    module _ (files : Files) where
      abbrev From : ReadInputs → Steps AnnotatedDesign → Type 0
      From inputs step = AnnotatesFrom (Some held) corners inputs files.spef settings step

      abbrev Read : List ℕ → Steps ReadInputs → Type 0
      Read bytes step = ReadsInputs (Some held) corners.count bytes settings.top files.libraries step

      files_view : (step : Steps AnnotatedDesign) → Annotates (Some held) corners files settings step → Then (ReadsNetlistFile (Some held) files.netlist) (λ bytes. Then (Read bytes) From) step
      files_view _ (at_netlist why reads) = stops why reads refl
      files_view _ (at_inputs bytes why reads stop) = goes bytes reads (stops why stop refl)
      files_view _ (at_design bytes inputs why reads are stop) = goes bytes reads (goes inputs are stop)
      files_view _ (is_annotated bytes inputs annotated reads are goes_on) = goes bytes reads (goes inputs are goes_on)

      one_files : HasOneAnswer (Annotates (Some held) corners files settings)
      one_files = one_by (Annotates (Some held) corners files settings) (Then (ReadsNetlistFile (Some held) files.netlist) (λ bytes. Then (Read bytes) From)) files_view
          (one_then (ReadsNetlistFile (Some held) files.netlist) (λ bytes. Then (Read bytes) From) (one_file held Netlist files.netlist)
          (λ bytes reads. one_then (Read bytes) From (one_inputs held corners.count bytes settings.top files.libraries)
          (λ inputs are. one_from inputs files.spef (links_one (Some held) corners.count bytes settings.top files.libraries inputs are))))

-- the files of a design have one answer
pub one_annotation : {I : Type 0} (corners : Corners I) → AreNumbered corners → 0 < corners.count → OneAnnotation corners
one_annotation corners numbered some held files settings = one_files corners numbered some settings held files
