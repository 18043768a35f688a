-- The phases and the work of `calc` over its keys, at the corners of its libraries.
use Rattle.std.specs.Prelude.{◌≡◌, ℕ, pos, List, map, Option}
use Rattle.corner_set.specs.TripleCorners.{number_of_member}
use Rattle.corner_set.specs.declared.pick.Pick.{Pick}
use Rattle.edge_io.specs.Holding.{Held}
use Rattle.gdc_words.specs.CommandLine.{Request, library_keys, libraries_of, value_of, pick_from, missing_from, wire_slew_from, beyond_from, IsPortLoad}
use Rattle.gdc_words.specs.Decimals.{IsGrains}
use Rattle.gdc_words.specs.declared.commands.Key.TheVariants as key
use Rattle.gdc_words.specs.declared.commands.Libraries.{Libraries}
use Rattle.gdc_words.specs.declared.commands.Libraries.TheVariants.{One, EachCorner}
use Rattle.sdf_writer.specs.SdfText.{SdfRows}
use Rattle.spef_nets.specs.Sections.{Corners}
use Rattle.verdict_phases.specs.Phases.{Step}
use Rattle.refusals.specs.declared.refusal.FileKey.{FileKey}
use Rattle.refusals.specs.declared.refusal.Refusal.{Refusal}
use Rattle.delay_core.specs.Annotation.{Annotates}
use Rattle.delay_core.specs.AnnotationWork.{FilesWork}
use Rattle.delay_core.specs.declared.settings.Files.{Files}
use Rattle.delay_core.specs.declared.settings.Settings.{Settings}
use Rattle.gdc_run.specs.Putting.{As}

-- the corners `min`, `typ` and `max`, at each of which its own member of a triple counts, whichever is picked
abbrev pub each_corner : Pick → Corners Pick
each_corner pick = record { count = 3; number = number_of_member; member = λ member. member }

-- how many corners a run with such libraries has
abbrev pub corner_count : Libraries → ℕ
corner_count One = 1
corner_count EachCorner = 3

-- the names of such libraries, in the order of the corners
abbrev pub library_names : Request → Libraries → List (List ℕ)
library_names request libraries = map (λ library. value_of request.given library) (library_keys libraries)

-- the files that are asked for, with such libraries
abbrev pub files_with : Request → Libraries → Files
files_with request libraries = record {
  netlist = value_of request.given key.Netlist;
  libraries = library_names request libraries;
  spef = value_of request.given key.Spef;
}

-- the files that are asked for
abbrev pub files_from : Request → Files
files_from request = files_with request (libraries_of request.given)

-- the settings that are asked for, at this slew of the input ports in attoseconds and this load of an output port in 10^-21 F
abbrev pub settings_at : Request → ℕ → ℕ → Settings
settings_at request slew load = record {
  top = value_of request.given key.Top;
  input_slew = record { 0 = pos slew };
  port_load = record { 0 = load };
  pick = pick_from request.given;
  missing = missing_from request.given;
  beyond = beyond_from request.given;
  wire_slew = wire_slew_from request.given;
}

-- a fact of the settings that are asked for
pub record ReadsSettings (request : Request) (fact : Settings → Type 0) : Type 0 where
  pub slew : ℕ
  pub load : ℕ
  pub slew_reads : IsGrains (value_of request.given key.InputSlew) slew
  pub load_reads : IsPortLoad request.given load
  pub holds : fact (settings_at request slew load)

-- these are the settings that are asked for
abbrev pub AreSettingsOf : Request → Settings → Type 0
AreSettingsOf request settings = ReadsSettings request (λ asked. settings ≡ asked)

-- the design of these files gets its delays at these corners, and has these rows
abbrev pub DesignGives : {I : Type 0} → (Pick → Corners I) → Option Held → Files → Settings → Step Refusal FileKey SdfRows → Type 0
DesignGives corners held files settings step = As (λ design. design.rows) (Annotates held (corners settings.pick) files settings) step

-- `calc`: the netlist, the library of each corner and the SPEF file are read in this order, and the design of them gets its delays
abbrev pub CalcGives : {I : Type 0} → (Pick → Corners I) → Option Held → Files → Request → Step Refusal FileKey SdfRows → Type 0
CalcGives corners held files request step = ReadsSettings request (λ settings. DesignGives corners held files settings step)

-- the work of `calc`: none before the files are read, and then that of their bytes
pub data CalcWork {I : Type 0} (corners : Pick → Corners I) (held : Option Held) (files : Files) (request : Request) : ℕ → Type 0 where
  no_settings : CalcWork corners held files request 0
  of_settings : {work : ℕ} → ReadsSettings request (λ settings. FilesWork held (corners settings.pick) files settings work)
      → CalcWork corners held files request work
