-- How many steps a run takes at the most: the work that its input gives.
use Rattle.std.specs.Prelude.{◌≡◌, ℕ, IsTrue, List, Option, Result, Ok, Err}
use Rattle.edge_io.specs.Holding.{Held}
use Rattle.verdict_phases.specs.declared.ends.PhaseEnd.TheVariants as phase
use Rattle.gdc_words.specs.declared.commands.Command.{Command}
use Rattle.gdc_words.specs.declared.commands.Command.TheVariants.{Wires, Calc, Show, Lookup, Flat, Trial, Help, Version}
use Rattle.gdc_words.specs.declared.commands.Key.TheVariants as key
use Rattle.gdc_words.specs.declared.commands.Libraries.{Libraries}
use Rattle.gdc_words.specs.declared.commands.Libraries.TheVariants.{One, EachCorner}
use Rattle.gdc_words.specs.CommandLine.{Request, Asks, libraries_of, value_of, pick_from}
use Rattle.wire_phases.specs.SpefPhases.{sole_corner}
use Rattle.gdc_run.specs.declared.outcome.Outcome.{Outcome}
use Rattle.gdc_run.specs.declared.outcome.Outcome.TheVariants as outcome
use Rattle.gdc_run.specs.declared.top.End.{End}
use Rattle.gdc_run.specs.declared.top.End.TheVariants as end
use Rattle.refusals.specs.declared.refusal.FileKey.{FileKey}
use Rattle.refusals.specs.declared.refusal.Refusal.{Refusal}
use Rattle.refusals.specs.EarlyRefusals.{is_early}
use Rattle.gdc_run.specs.Calculation.{each_corner, files_with, CalcWork}
use Rattle.gdc_run.specs.Trial.{TrialWork, ReadsTrial}
use Rattle.command_rows.specs.RowsWork.{WiresWork, LookupWork}

-- the work of `calc` with such libraries: at the one corner, or at each of the three
abbrev pub OutputWork : Option Held → Request → Libraries → ℕ → Type 0
OutputWork held request One work = CalcWork sole_corner held (files_with request One) request work
OutputWork held request EachCorner work = CalcWork each_corner held (files_with request EachCorner) request work

-- the work of `trial`: none before its files are made, and then theirs
pub data MadeWork (request : Request) : ℕ → Type 0 where
  not_made : MadeWork request 0
  of_made : {work : ℕ} → ReadsTrial request (λ shape size. TrialWork shape size work) → MadeWork request work

-- the work of a command: `wires`, `calc`, `lookup` and `trial` take steps, and no other
abbrev pub CommandWork : Option Held → Command → Request → ℕ → Type 0
CommandWork held Wires request work = WiresWork (sole_corner (pick_from request.given)) held (value_of request.given key.Spef) work
CommandWork held Calc request work = OutputWork held request (libraries_of request.given) work
CommandWork held Show request work = work ≡ 0
CommandWork held Lookup request work = LookupWork 1 0 held (value_of request.given key.Lib) (value_of request.given key.Cell) work
CommandWork held Flat request work = work ≡ 0
CommandWork held Trial request work = MadeWork request work
CommandWork held Help request work = work ≡ 0
CommandWork held Version request work = work ≡ 0

-- the work of these words and of what is held: none before the words are read, and then that of their command
pub data WordsWork (words : List (List ℕ)) (held : Option Held) : ℕ → Type 0 where
  no_words : WordsWork words held 0
  of_words : {work : ℕ} (request : Request) → Asks words (Ok request) → CommandWork held request.command request work
      → WordsWork words held work

-- a fact of an end that comes before a tree is built
abbrev pub OnEarlyEnd : {A : Type 0} → Result A End → Type 0 → Type 0
OnEarlyEnd (Ok value) fact = Unit {0}
OnEarlyEnd (Err (end.Usage fault)) fact = fact
OnEarlyEnd (Err (end.Phase (phase.Refused refusal))) fact = IsTrue (is_early refusal) → fact
OnEarlyEnd (Err (end.Phase (phase.ReadFault key))) fact = fact
OnEarlyEnd (Err (end.Phase phase.OutOfMemory)) fact = Unit {0}
OnEarlyEnd (Err end.OutOfMemory) fact = Unit {0}

-- a fact of every answer that comes before a tree is built, of the commands that read no file behind one
abbrev pub OnEarlyAnswer : Outcome → Type 0 → Type 0
OnEarlyAnswer outcome.Done fact = Unit {0}
OnEarlyAnswer (outcome.Refused refusal) fact = IsTrue (is_early refusal) → fact
OnEarlyAnswer (outcome.Usage fault) fact = fact
OnEarlyAnswer (outcome.ReadFault key) fact = fact
OnEarlyAnswer outcome.WriteFault fact = Unit {0}
OnEarlyAnswer outcome.OutOfMemory fact = Unit {0}

-- a refusal of a command comes before a tree is built
abbrev pub IsEarlyOf : Command → Refusal → Type 0
IsEarlyOf Wires refusal = IsTrue (is_early refusal)
IsEarlyOf Calc refusal = IsTrue (is_early refusal)
IsEarlyOf Show refusal = IsTrue (is_early refusal)
IsEarlyOf Lookup refusal = IsTrue (is_early refusal)
IsEarlyOf Flat refusal = IsTrue (is_early refusal)
IsEarlyOf Trial refusal = IsTrue (is_early refusal)
IsEarlyOf Help refusal = IsTrue (is_early refusal)
IsEarlyOf Version refusal = IsTrue (is_early refusal)

-- a command reads the file of a key before a tree is built, as each does with each of its files
abbrev pub IsReadEarly : Command → FileKey → Type 0
IsReadEarly Wires key = Unit {0}
IsReadEarly Calc key = Unit {0}
IsReadEarly Show key = Unit {0}
IsReadEarly Lookup key = Unit {0}
IsReadEarly Flat key = Unit {0}
IsReadEarly Trial key = Unit {0}
IsReadEarly Help key = Unit {0}
IsReadEarly Version key = Unit {0}

-- a fact that holds where this is so of the command that the words ask for
abbrev pub WhereAsked : List (List ℕ) → (Command → Type 0) → Type 0 → Type 0
WhereAsked words So fact = (request : Request) → Asks words (Ok request) → So request.command → fact

-- a fact of every answer that comes before a tree is built for the command that the words ask for
abbrev pub BeforeTrees : List (List ℕ) → Outcome → Type 0 → Type 0
BeforeTrees words outcome.Done fact = Unit {0}
BeforeTrees words (outcome.Refused refusal) fact = WhereAsked words (λ command. IsEarlyOf command refusal) fact
BeforeTrees words (outcome.Usage fault) fact = fact
BeforeTrees words (outcome.ReadFault key) fact = WhereAsked words (λ command. IsReadEarly command key) fact
BeforeTrees words outcome.WriteFault fact = Unit {0}
BeforeTrees words outcome.OutOfMemory fact = Unit {0}
