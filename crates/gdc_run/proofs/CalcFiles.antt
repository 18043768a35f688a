-- The files of `calc`: the netlist, the library of each corner, and then the SPEF file; and its settings.
use Rattle.std.proofs.Common.{◌≡◌, ℕ, zero, suc, ◌+◌, inl, inr, true, List, length, Option, Some, Result, Ok, Err, refl, sym, ap, ◌∙◌, subst, arith}
use Rattle.std.specs.Prelude.{IsTrue, slice_get}
use Rattle.std.specs.List.{list_any}
use Rattle.corner_set.specs.declared.pick.Pick.{Pick}
use Rattle.edge_io.specs.Counts.{RoseBy}
use Rattle.edge_io.specs.Holding.{Held, TellsMissing}
use Rattle.sdf_writer.specs.SdfText.{SdfRows}
use Rattle.spef_nets.specs.Sections.{Corners}
use Rattle.verdict_phases.specs.Phases.{RefusedBy, Unread, Reads, Go, Halt, Follows}
use Rattle.verdict_phases.specs.declared.ends.PhaseEnd.{PhaseEnd}
use Rattle.verdict_phases.specs.declared.ends.PhaseEnd.TheVariants as phase
use Rattle.gdc_words.specs.CommandLine.{Request, same_key, needed_keys, needs_key, libraries_of, value_of}
use Rattle.gdc_words.specs.declared.asked.Given.{Given}
use Rattle.gdc_words.specs.declared.commands.Command.{Command}
use Rattle.gdc_words.specs.declared.commands.Command.TheVariants.{Calc}
use Rattle.gdc_words.specs.declared.commands.Key.{Key}
use Rattle.gdc_words.specs.declared.commands.Key.TheVariants as asked_key
use Rattle.gdc_words.specs.declared.commands.Libraries.{Libraries}
use Rattle.gdc_words.specs.declared.commands.Libraries.TheVariants.{One, EachCorner}
use Rattle.design_phases.specs.DesignReading.{ReadInputs}
use Rattle.design_phases.specs.LibraryReading.{library_key}
use Rattle.refusals.specs.Refused.{AtReadFault}
use Rattle.wire_phases.specs.SpefPhases.{sole_corner}
use Rattle.wire_phases.specs.SpefWork.{IsWithin}
use Rattle.refusals.specs.declared.refusal.FileKey.{FileKey}
use Rattle.refusals.specs.declared.refusal.FileKey.TheVariants.{Netlist, Spef}
use Rattle.refusals.specs.declared.refusal.Refusal.{Refusal}
use Rattle.design_phases.proofs.DesignLemmas.{inputs_stop}
use Rattle.refusals.proofs.Places.{some_is}
use Rattle.delay_core.specs.Annotation.{AnnotatesFrom, at_spef, Annotates, at_netlist, at_inputs, at_design, files_read, key_of_file, IsAnnotationFault}
use Rattle.delay_core.specs.AnnotationWork.{FilesWork}
use Rattle.delay_core.specs.declared.settings.Files.{Files}
use Rattle.delay_core.specs.declared.settings.Settings.{Settings}
use Rattle.gdc_run.specs.Calculation.{each_corner, corner_count, library_names, files_with, settings_at, ReadsSettings, AreSettingsOf, DesignGives, CalcGives, CalcWork, no_settings, of_settings}
use Rattle.gdc_run.specs.Outcomes.{name_of, place_at, places_in_calc, places_for, HasCause}
use Rattle.gdc_run.specs.Verdict.{CalcOutput}

-- ---- the libraries

-- `calc` needs the keys of its libraries
needs_with : (given : List Given) (libraries : Libraries) (key : Key) → libraries_of given ≡ libraries → list_any (λ needed. same_key needed key) (needed_keys Calc libraries) ≡ true → IsTrue (needs_key Calc given key)
needs_with given libraries key are needs = subst (λ (l : Libraries). IsTrue (list_any (λ needed. same_key needed key) (needed_keys Calc l))) (sym are) needs

pub needs_library : (command : Command) (given : List Given) (libraries asked : Libraries) (key : Key) → command ≡ Calc → asked ≡ libraries → asked ≡ libraries_of given
    → list_any (λ needed. same_key needed key) (needed_keys Calc libraries) ≡ true → IsTrue (needs_key command given key)
needs_library command given libraries asked key is are same needs =
    subst (λ (c : Command). IsTrue (needs_key c given key)) (sym is) (needs_with given libraries key (sym same ∙ are) needs)

-- the names of such libraries are those that are asked for
pub names_with : (request : Request) (libraries asked : Libraries) (names : List (List ℕ)) → asked ≡ libraries → asked ≡ libraries_of request.given → names ≡ library_names request libraries
    → names ≡ library_names request (libraries_of request.given)
names_with request libraries asked names are same is = is ∙ ap (library_names request) (sym are ∙ same)

-- there is one for each corner
pub names_long : (request : Request) (libraries : Libraries) → length (library_names request libraries) ≡ corner_count libraries
names_long request One = refl
names_long request EachCorner = refl

-- ---- the settings

-- what holds of the settings holds of those that are asked for
asked_holds : (request : Request) (own files : Files) (settings : Settings) (fact : Files → Settings → Type 0) → files ≡ own → AreSettingsOf request settings
    → fact files settings → ReadsSettings request (fact own)
asked_holds request own files settings fact same asked holds = record {
  slew = asked.slew;
  load = asked.load;
  slew_reads = asked.slew_reads;
  load_reads = asked.load_reads;
  holds = subst (fact own) asked.holds (subst (λ (f : Files). fact f settings) same holds);
}

module _ {I : Type 0} (corners : Pick → Corners I) (held : Option Held) (own : Files) (request : Request) where
  -- the rows of the design are those that are asked for
  pub calc_follows : (files : Files) (settings : Settings) (result : Result SdfRows (PhaseEnd Refusal FileKey)) → files ≡ own → AreSettingsOf request settings
      → Follows (DesignGives corners held files settings) result → Follows (CalcGives corners held own request) result
  calc_follows files settings (Ok rows) same asked gives = asked_holds request own files settings (λ f s. DesignGives corners held f s (Go rows)) same asked gives
  calc_follows files settings (Err (phase.Refused refusal)) same asked gives = asked_holds request own files settings (λ f s. DesignGives corners held f s (Halt (RefusedBy refusal))) same asked gives
  calc_follows files settings (Err (phase.ReadFault key)) same asked gives = asked_holds request own files settings (λ f s. DesignGives corners held f s (Halt (Reads key))) same asked gives
  calc_follows files settings (Err phase.OutOfMemory) same asked gives = tt

  pub no_calc_work : (steps : ℕ) → IsWithin (CalcWork corners held own request) steps steps
  no_calc_work steps = record { work = 0; given = no_settings; bound = omega arith }

  pub calc_work : (files : Files) (settings : Settings) (before after : ℕ) → files ≡ own → AreSettingsOf request settings
      → IsWithin (FilesWork held (corners settings.pick) files settings) before after → IsWithin (CalcWork corners held own request) before after
  calc_work files settings before after same asked within = record {
    work = within.work;
    given = of_settings (asked_holds request own files settings (λ f s. FilesWork held (corners s.pick) f s within.work) same asked within.given);
    bound = within.bound;
  }

-- ---- the files

module _ (request : Request) where
  -- a file that is read has a key, whose file it is, at its place
  record IsRead (libraries : Libraries) (name : List ℕ) (before : ℕ) (key : FileKey) : Type 0 where
    name_is : name_of request key ≡ name
    place_is : place_at (places_in_calc libraries) key ≡ before + 1

  read_as : (libraries : Libraries) (own name : List ℕ) (before : ℕ) (key fixed : FileKey) → key ≡ fixed → Some own ≡ Some name → name_of request fixed ≡ own → place_at (places_in_calc libraries) fixed ≡ before + 1
      → IsRead libraries name before key
  read_as libraries own name before key fixed keyed named its place = record {
    name_is = ap (name_of request) keyed ∙ its ∙ some_is own name named;
    place_is = ap (place_at (places_in_calc libraries)) keyed ∙ place;
  }

  -- by how many are read before it
  file_named : (libraries : Libraries) (before : ℕ) (name : List ℕ) (key : FileKey) → slice_get (files_read (files_with request libraries)) before ≡ Some name
      → key ≡ key_of_file (corner_count libraries) before → IsRead libraries name before key
  file_named One zero name key named keyed = read_as One _ name 0 key _ keyed named refl refl
  file_named One (suc zero) name key named keyed = read_as One _ name 1 key _ keyed named refl refl
  file_named One (suc (suc zero)) name key named keyed = read_as One _ name 2 key _ keyed named refl refl
  file_named One (suc (suc (suc before))) name key named keyed = cc
  file_named EachCorner zero name key named keyed = read_as EachCorner _ name 0 key _ keyed named refl refl
  file_named EachCorner (suc zero) name key named keyed = read_as EachCorner _ name 1 key _ keyed named refl refl
  file_named EachCorner (suc (suc zero)) name key named keyed = read_as EachCorner _ name 2 key _ keyed named refl refl
  file_named EachCorner (suc (suc (suc zero))) name key named keyed = read_as EachCorner _ name 3 key _ keyed named refl refl
  file_named EachCorner (suc (suc (suc (suc zero)))) name key named keyed = read_as EachCorner _ name 4 key _ keyed named refl refl
  file_named EachCorner (suc (suc (suc (suc (suc before))))) name key named keyed = cc

  module _ (held : Option Held) where
    own_cause : (libraries : Libraries) (faults faults' opens opens' : ℕ) (key : FileKey) → request.command ≡ Calc → libraries_of request.given ≡ libraries
        → IsAnnotationFault held (corner_count libraries) (files_with request libraries) faults faults' opens opens' key → HasCause held request faults faults' opens opens' key
    own_cause libraries faults faults' opens opens' key is are fault =
        let its = file_named libraries fault.before fault.name key fault.named fault.keyed in
        record {
          cause = elim fault.cause [
            | inl rose ↦ inl rose
            | inr missing ↦ inr (subst (TellsMissing held) (sym its.name_is) missing)
          ];
          opened = subst (λ n. RoseBy n opens opens')
              (sym (ap (λ (c : Command). place_at (places_for c (libraries_of request.given)) key) is ∙ ap (λ (l : Libraries). place_at (places_in_calc l) key) are ∙ its.place_is)) fault.opened;
        }

    -- a fault at one of them has its cause
    calc_cause : (count : ℕ) (files : Files) (faults faults' opens opens' : ℕ) (key : FileKey) → request.command ≡ Calc → count ≡ corner_count (libraries_of request.given)
        → files ≡ files_with request (libraries_of request.given) → IsAnnotationFault held count files faults faults' opens opens' key → HasCause held request faults faults' opens opens' key
    calc_cause count files faults faults' opens opens' key is counts same fault =
        own_cause (libraries_of request.given) faults faults' opens opens' key is refl
        (subst (λ (f : Files). IsAnnotationFault held (corner_count (libraries_of request.given)) f faults faults' opens opens' key) same
        (subst (λ (n : ℕ). IsAnnotationFault held n files faults faults' opens opens' key) counts fault))

    pub calc_fault : {A : Type 0} (count : ℕ) (files : Files) (faults faults' opens opens' : ℕ) (result : Result A (PhaseEnd Refusal FileKey)) → request.command ≡ Calc
        → count ≡ corner_count (libraries_of request.given) → files ≡ files_with request (libraries_of request.given)
        → AtReadFault result (IsAnnotationFault held count files faults faults' opens opens') → AtReadFault result (HasCause held request faults faults' opens opens')
    calc_fault count files f f' o o' (Ok value) is counts same fault = tt
    calc_fault count files f f' o o' (Err (phase.Refused refusal)) is counts same fault = tt
    calc_fault count files f f' o o' (Err (phase.ReadFault key)) is counts same fault = calc_cause count files f f' o o' key is counts same fault
    calc_fault count files f f' o o' (Err phase.OutOfMemory) is counts same fault = tt

    -- where the phases come to one that is not held, that decides
    module _ (libraries : Libraries) where
      at_key : (before : ℕ) (name : List ℕ) (key : FileKey) → slice_get (files_read (files_with request libraries)) before ≡ Some name → key ≡ key_of_file (corner_count libraries) before
          → TellsMissing held (name_of request key) → TellsMissing held name
      at_key before name key named keyed missing = subst (TellsMissing held) (file_named libraries before name key named keyed).name_is missing

    at_first : (libraries : Libraries) (key : FileKey) → key ≡ Netlist → TellsMissing held (name_of request key) → TellsMissing held (value_of request.given asked_key.Netlist)
    at_first One key keyed missing = at_key One 0 _ key refl keyed missing
    at_first EachCorner key keyed missing = at_key EachCorner 0 _ key refl keyed missing

    at_library : (libraries : Libraries) (corner : ℕ) (name : List ℕ) (key : FileKey) → slice_get (library_names request libraries) corner ≡ Some name → key ≡ library_key (corner_count libraries) corner
        → TellsMissing held (name_of request key) → TellsMissing held name
    at_library One zero name key named keyed missing = at_key One 1 name key named keyed missing
    at_library One (suc corner) name key named keyed missing = cc
    at_library EachCorner zero name key named keyed missing = at_key EachCorner 1 name key named keyed missing
    at_library EachCorner (suc zero) name key named keyed missing = at_key EachCorner 2 name key named keyed missing
    at_library EachCorner (suc (suc zero)) name key named keyed missing = at_key EachCorner 3 name key named keyed missing
    at_library EachCorner (suc (suc (suc corner))) name key named keyed missing = cc

    at_last : (libraries : Libraries) (key : FileKey) → key ≡ Spef → TellsMissing held (name_of request key) → TellsMissing held (value_of request.given asked_key.Spef)
    at_last One key keyed missing = at_key One 2 _ key refl keyed missing
    at_last EachCorner key keyed missing = at_key EachCorner 4 _ key refl keyed missing

    module _ {I : Type 0} (corners : Corners I) (libraries : Libraries) (counts : corners.count ≡ corner_count libraries) (settings : Settings) (key : FileKey)
        (missing : TellsMissing held (name_of request key)) where
      unread_spef : (inputs : ReadInputs) → AnnotatesFrom held corners inputs (value_of request.given asked_key.Spef) settings (Halt (Reads key))
          → AnnotatesFrom held corners inputs (value_of request.given asked_key.Spef) settings (Halt (Unread key))
      unread_spef inputs (at_spef design why links file) = at_spef design (Unread key) links (at_last libraries key file missing, file)

      unread_design : Annotates held corners (files_with request libraries) settings (Halt (Reads key)) → Annotates held corners (files_with request libraries) settings (Halt (Unread key))
      unread_design (at_netlist why reads) = at_netlist (Unread key) (at_first libraries key reads missing, reads)
      unread_design (at_inputs bytes why reads inputs) =
          let stops = inputs_stop held corners.count bytes settings.top (library_names request libraries) key inputs in
          let keyed : key ≡ library_key (corner_count libraries) stops.stop.corner = stops.stop.keyed ∙ ap (λ (n : ℕ). library_key n stops.stop.corner) counts in
          at_inputs bytes (Unread key) reads (stops.unread (at_library libraries stops.stop.corner stops.stop.name key stops.stop.named keyed missing))
      unread_design (at_design bytes inputs why reads are later) = at_design bytes inputs (Unread key) reads are (unread_spef inputs later)

    unread_calc : {I : Type 0} (corners : Pick → Corners I) (libraries : Libraries) → ((pick : Pick) → (corners pick).count ≡ corner_count libraries) → (key : FileKey)
        → CalcGives corners held (files_with request libraries) request (Halt (Reads key)) → TellsMissing held (name_of request key) → CalcGives corners held (files_with request libraries) request (Halt (Unread key))
    unread_calc corners libraries counts key reached missing =
        let settings = settings_at request reached.slew reached.load in
        record {
          slew = reached.slew;
          load = reached.load;
          slew_reads = reached.slew_reads;
          load_reads = reached.load_reads;
          holds = unread_design (corners settings.pick) libraries (counts settings.pick) settings key missing reached.holds;
        }

    pub unread_output : (libraries : Libraries) (key : FileKey) → CalcOutput held request libraries (Halt (Reads key)) → TellsMissing held (name_of request key) → CalcOutput held request libraries (Halt (Unread key))
    unread_output One key reached missing = unread_calc sole_corner One (λ pick. refl) key reached missing
    unread_output EachCorner key reached missing = unread_calc each_corner EachCorner (λ pick. refl) key reached missing
