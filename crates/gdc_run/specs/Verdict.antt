-- The verdict on the words and on what a shelf holds: what a run has to answer.
--
-- The phases are asked in order, and the first that stops decides. Each is a relation, named for what it relates.
use Rattle.std.specs.Prelude.{◌≡◌, ℕ, List, Option, Ok, Err}
use Rattle.edge_io.specs.Holding.{Held}
use Rattle.verdict_phases.specs.Phases.{Step, Go}
use Rattle.gdc_words.specs.declared.commands.Command.{Command}
use Rattle.gdc_words.specs.declared.commands.Command.TheVariants.{Wires, Calc, Show, Lookup, Flat, Trial, Help, Version}
use Rattle.gdc_words.specs.declared.commands.Key.TheVariants as key
use Rattle.gdc_words.specs.declared.commands.Libraries.{Libraries}
use Rattle.gdc_words.specs.declared.commands.Libraries.TheVariants.{One, EachCorner}
use Rattle.gdc_words.specs.declared.faults.UsageFault.{UsageFault}
use Rattle.refusals.specs.declared.refusal.FileKey.{FileKey}
use Rattle.refusals.specs.declared.refusal.Refusal.{Refusal}
use Rattle.gdc_words.specs.CommandLine.{Request, Asks, libraries_of, value_of, pick_from, beyond_from}
use Rattle.wire_phases.specs.SpefPhases.{sole_corner}
use Rattle.gdc_words.specs.Decimals.{IsGrains}
use Rattle.gdc_run.specs.Calculation.{each_corner, files_with, CalcGives}
use Rattle.gdc_run.specs.Putting.{As}
use Rattle.gdc_run.specs.Trial.{TrialGives, ReadsTrial}
use Rattle.gdc_run.specs.declared.output.Output.{Output}
use Rattle.gdc_run.specs.declared.output.Output.TheVariants as output
use Rattle.command_rows.specs.CommandRows.{WiresGives, ShowGives, LookupGives, FlatGives}

-- a fact of the slew and the load that are asked for, in grains
pub record ReadsPoint (request : Request) (fact : ℕ → ℕ → Type 0) : Type 0 where
  pub slew : ℕ
  pub load : ℕ
  pub slew_reads : IsGrains (value_of request.given key.Slew) slew
  pub load_reads : IsGrains (value_of request.given key.Load) load
  pub holds : fact slew load

-- what `calc` has to write with such libraries: rows of the one corner, or of each of the three
abbrev pub CalcOutput : Option Held → Request → Libraries → Step Refusal FileKey Output → Type 0
CalcOutput held request One step = As output.Sdf (CalcGives sole_corner held (files_with request One) request) step
CalcOutput held request EachCorner step = As output.SdfOfCorners (CalcGives each_corner held (files_with request EachCorner) request) step

-- the phases of a command over its keys
abbrev pub CommandGives : Option Held → Command → Request → Step Refusal FileKey Output → Type 0
CommandGives held Wires request step = As output.Sdf
    (WiresGives (sole_corner (pick_from request.given)) held (value_of request.given key.Spef)) step
CommandGives held Calc request step = CalcOutput held request (libraries_of request.given) step
CommandGives held Show request step = As output.Listing (ShowGives held (value_of request.given key.Sdf)) step
CommandGives held Lookup request step = ReadsPoint request
    (λ slew load. As output.Arcs (LookupGives 1 0 held (value_of request.given key.Lib) (value_of request.given key.Cell) slew load
    (beyond_from request.given)) step)
CommandGives held Flat request step = As output.Flat
    (FlatGives held (value_of request.given key.Netlist) (value_of request.given key.Top) (value_of request.given key.Lib)) step
CommandGives held Trial request step = ReadsTrial request (λ shape size. As output.Summary (TrialGives shape size) step)
CommandGives held Help request step = step ≡ Go output.Help
CommandGives held Version request step = step ≡ Go output.Version

-- the words are faulty, or the phases of their command answer
pub data Verdict : Type 0 where
  Faulty : UsageFault → Verdict
  Answers : Step Refusal FileKey Output → Verdict

-- the verdict on these words and on what is held
abbrev pub Gives : List (List ℕ) → Option Held → Verdict → Type 0
Gives words held (Faulty fault) = Asks words (Err fault)
Gives words held (Answers step) = (request : Request) × Asks words (Ok request) × CommandGives held request.command request step
