-- What each way in which a run ends says of the verdict, and of what was written.
use Rattle.std.specs.Prelude.{◌≡◌, ℕ, ◌+◌, ◌⊎◌, List, Option, Ok, Err}
use Rattle.edge_io.specs.Counts.{Rose, RoseBy}
use Rattle.edge_io.specs.Holding.{Held, TellsMissing}
use Rattle.verdict_phases.specs.Phases.{Reads, Go, Halt}
use Rattle.gdc_words.specs.declared.commands.Command.{Command}
use Rattle.gdc_words.specs.declared.commands.Command.TheVariants.{Wires, Calc, Show, Lookup, Flat, Trial, Help, Version}
use Rattle.gdc_words.specs.declared.commands.Key.TheVariants as key
use Rattle.gdc_words.specs.declared.commands.Libraries.{Libraries}
use Rattle.gdc_words.specs.declared.commands.Libraries.TheVariants.{One, EachCorner}
use Rattle.gdc_words.specs.declared.faults.UsageFault.{UsageFault}
use Rattle.refusals.specs.declared.refusal.FileKey.{FileKey}
use Rattle.refusals.specs.declared.refusal.FileKey.TheVariants.{Netlist, Lib, LibMin, LibTyp, LibMax, Spef, Sdf}
use Rattle.refusals.specs.declared.refusal.Refusal.{Refusal}
use Rattle.gdc_run.specs.declared.outcome.Outcome.{Outcome}
use Rattle.gdc_run.specs.declared.outcome.Outcome.TheVariants.{Done, Refused, Usage, ReadFault, WriteFault, OutOfMemory}
use Rattle.gdc_words.specs.CommandLine.{Request, Asks, libraries_of, value_of}
use Rattle.gdc_run.specs.declared.output.Output.{Output}
use Rattle.gdc_run.specs.Outputs.{output_text}
use Rattle.gdc_run.specs.Calculation.{corner_count}
use Rattle.gdc_run.specs.ReadBack.{IsFitFor, IsReadable}
use Rattle.gdc_run.specs.Verdict.{Gives, Answers, CommandGives}

-- a fact of the run where it is done
abbrev pub OnDone : Outcome → Type 0 → Type 0
OnDone Done fact = fact
OnDone (Refused refusal) fact = Unit {0}
OnDone (Usage fault) fact = Unit {0}
OnDone (ReadFault key) fact = Unit {0}
OnDone WriteFault fact = Unit {0}
OnDone OutOfMemory fact = Unit {0}

-- a fact of the refusal where the run is refused
abbrev pub IfRefused : Outcome → (Refusal → Type 0) → Type 0
IfRefused Done fact = Unit {0}
IfRefused (Refused refusal) fact = fact refusal
IfRefused (Usage fault) fact = Unit {0}
IfRefused (ReadFault key) fact = Unit {0}
IfRefused WriteFault fact = Unit {0}
IfRefused OutOfMemory fact = Unit {0}

-- a fact of the fault of the words where it is answered
abbrev pub IfUsage : Outcome → (UsageFault → Type 0) → Type 0
IfUsage Done fact = Unit {0}
IfUsage (Refused refusal) fact = Unit {0}
IfUsage (Usage fault) fact = fact fault
IfUsage (ReadFault key) fact = Unit {0}
IfUsage WriteFault fact = Unit {0}
IfUsage OutOfMemory fact = Unit {0}

-- a fact of the key where a file could not be read
abbrev pub IfReadFault : Outcome → (FileKey → Type 0) → Type 0
IfReadFault Done fact = Unit {0}
IfReadFault (Refused refusal) fact = Unit {0}
IfReadFault (Usage fault) fact = Unit {0}
IfReadFault (ReadFault key) fact = fact key
IfReadFault WriteFault fact = Unit {0}
IfReadFault OutOfMemory fact = Unit {0}

-- a fact where the text could not be written whole
abbrev pub OnWriteFault : Outcome → Type 0 → Type 0
OnWriteFault Done fact = Unit {0}
OnWriteFault (Refused refusal) fact = Unit {0}
OnWriteFault (Usage fault) fact = Unit {0}
OnWriteFault (ReadFault key) fact = Unit {0}
OnWriteFault WriteFault fact = fact
OnWriteFault OutOfMemory fact = Unit {0}

-- a fact of every answer that comes once the text is written, whole or not
abbrev pub OnceWritten : Outcome → Type 0 → Type 0
OnceWritten Done fact = fact
OnceWritten (Refused refusal) fact = Unit {0}
OnceWritten (Usage fault) fact = Unit {0}
OnceWritten (ReadFault key) fact = Unit {0}
OnceWritten WriteFault fact = fact
OnceWritten OutOfMemory fact = Unit {0}

-- a fact of every answer that comes before a byte of the text is written
abbrev pub UnlessWritten : Outcome → Type 0 → Type 0
UnlessWritten Done fact = Unit {0}
UnlessWritten (Refused refusal) fact = fact
UnlessWritten (Usage fault) fact = fact
UnlessWritten (ReadFault key) fact = fact
UnlessWritten WriteFault fact = Unit {0}
UnlessWritten OutOfMemory fact = fact

-- the verdict gives what is to be written, of whose text this holds
abbrev pub GivesText : List (List ℕ) → Option Held → (List ℕ → Type 0) → Type 0
GivesText words held fact = (output : Output) × Gives words held (Answers (Go output)) × fact (output_text output)

-- the same, and what is written is fit for the command
abbrev pub GivesFit : List (List ℕ) → Option Held → (List ℕ → Type 0) → Type 0
GivesFit words held fact = (output : Output) × (given : Gives words held (Answers (Go output)))
    × IsFitFor given.0.command output × fact (output_text output)

-- the same, and what is written is readable as the command has it
abbrev pub GivesReadable : List (List ℕ) → Option Held → (List ℕ → Type 0) → Type 0
GivesReadable words held fact = (output : Output) × (given : Gives words held (Answers (Go output)))
    × IsReadable given.0.command output × fact (output_text output)

-- the name of the file of a key
abbrev pub name_of : Request → FileKey → List ℕ
name_of request Netlist = value_of request.given key.Netlist
name_of request Spef = value_of request.given key.Spef
name_of request Sdf = value_of request.given key.Sdf
name_of request Lib = value_of request.given key.Lib
name_of request LibMin = value_of request.given key.LibMin
name_of request LibTyp = value_of request.given key.LibTyp
name_of request LibMax = value_of request.given key.LibMax

-- a place for each key of a file
pub record Places : Type 0 where
  pub netlist : ℕ
  pub library : ℕ
  pub minimum : ℕ
  pub typical : ℕ
  pub maximum : ℕ
  pub spef : ℕ
  pub sdf : ℕ

abbrev pub place_at : Places → FileKey → ℕ
place_at places Netlist = places.netlist
place_at places Lib = places.library
place_at places LibMin = places.minimum
place_at places LibTyp = places.typical
place_at places LibMax = places.maximum
place_at places Spef = places.spef
place_at places Sdf = places.sdf

-- the places where no file is read
abbrev pub no_places : Places
no_places = record { netlist = 0; library = 0; minimum = 0; typical = 0; maximum = 0; spef = 0; sdf = 0 }

-- the places of the files in the order in which `calc` reads them with such libraries
abbrev pub places_in_calc : Libraries → Places
places_in_calc One = record no_places { netlist = 1; library = 2; spef = 3 }
places_in_calc EachCorner = record no_places { netlist = 1; minimum = 2; typical = 3; maximum = 4; spef = 5 }

-- the places of the files in the order in which a command reads them, from 1; 0 for a file that it does not read
abbrev pub places_for : Command → Libraries → Places
places_for Wires libraries = record no_places { spef = 1 }
places_for Calc libraries = places_in_calc libraries
places_for Show libraries = record no_places { sdf = 1 }
places_for Lookup libraries = record no_places { library = 1 }
places_for Flat libraries = record no_places { netlist = 1; library = 2 }
places_for Trial libraries = no_places
places_for Help libraries = no_places
places_for Version libraries = no_places

-- how many files a command reads: the netlist, the SPEF file and the libraries of its corners for `calc`
abbrev pub file_count : Command → Libraries → ℕ
file_count Wires libraries = 1
file_count Calc libraries = corner_count libraries + 2
file_count Show libraries = 1
file_count Lookup libraries = 1
file_count Flat libraries = 2
file_count Trial libraries = 0
file_count Help libraries = 0
file_count Version libraries = 0

-- the place of the file of a key in the order in which it is read for what is asked for
abbrev pub reading_place : Request → FileKey → ℕ
reading_place request key = place_at (places_for request.command (libraries_of request.given)) key

-- how many files are read for what is asked for
abbrev pub files_asked : Request → ℕ
files_asked request = file_count request.command (libraries_of request.given)

-- Why the file of a key could not be read: the shelf's count of faults rose, or the shelf tells that it does not hold the
-- file. So many files were opened as stand up to it.
pub record HasCause (held : Option Held) (request : Request) (faults faults' opens opens' : ℕ) (key : FileKey) : Type 0 where
  pub cause : Rose faults faults' ⊎ TellsMissing held (name_of request key)
  pub opened : RoseBy (reading_place request key) opens opens'

-- A read fault at the file of a key: the phases of the command come to its reading, and it has its cause.
pub record HasReadFault (words : List (List ℕ)) (held : Option Held) (key : FileKey) (faults faults' opens opens' : ℕ) : Type 0 where
  pub request : Request
  pub asked : Asks words (Ok request)
  pub reached : CommandGives held request.command request (Halt (Reads key))
  pub fault : HasCause held request faults faults' opens opens' key

-- the words ask for no file: they have a fault, or they ask for help, the version or `trial`
abbrev pub AskForNoFile : List (List ℕ) → Type 0
AskForNoFile words = (request : Request) → Asks words (Ok request) → files_asked request ≡ 0

-- as many files were opened as are read for what the words ask for
abbrev pub OpenedFiles : List (List ℕ) → ℕ → ℕ → Type 0
OpenedFiles words opens opens' = (request : Request) × Asks words (Ok request) × RoseBy (files_asked request) opens opens'

-- where the words have a first fault, the run answers it, unless memory runs out
abbrev pub AnswersUsage : List (List ℕ) → Outcome → Type 0
AnswersUsage words outcome = (fault : UsageFault) → Asks words (Err fault) → (outcome ≡ Usage fault) ⊎ (outcome ≡ OutOfMemory)
