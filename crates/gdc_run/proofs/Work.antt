-- The work of a run.
use Rattle.std.proofs.Common.{◌≡◌, ℕ, List, Ok, refl, sym, subst, arith}
use Rattle.std.specs.Prelude.{IsTrue, Option, Some}
use Rattle.refusals.specs.declared.refusal.Refusal.{Refusal}
use Rattle.refusals.specs.EarlyRefusals.{is_early}
use Rattle.gdc_run.specs.declared.outcome.Outcome.{Outcome}
use Rattle.gdc_run.specs.declared.outcome.Outcome.TheVariants as outcome
use Rattle.edge_io.specs.Holding.{Held}
use Rattle.gdc_words.specs.declared.commands.Command.{Command}
use Rattle.gdc_words.specs.declared.commands.Command.TheVariants.{Wires, Calc, Show, Lookup, Flat, Trial, Help, Version}
use Rattle.gdc_words.specs.declared.commands.Libraries.{Libraries}
use Rattle.gdc_words.specs.declared.commands.Libraries.TheVariants.{One, EachCorner}
use Rattle.gdc_words.specs.declared.commands.Key.TheVariants as key
use Rattle.gdc_words.specs.declared.commands.Shape.{Shape}
use Rattle.gdc_words.specs.Sizes.{IsSize}
use Rattle.gdc_words.specs.CommandLine.{Request, Asks, libraries_of, shape_of, value_of}
use Rattle.gdc_run.specs.Calculation.{no_settings}
use Rattle.gdc_run.specs.Trial.{TrialWork}
use Rattle.wire_phases.specs.SpefWork.{IsWithin}
use Rattle.gdc_run.specs.Work.{OnEarlyAnswer, IsEarlyOf, BeforeTrees, OutputWork, not_made, of_made, CommandWork, WordsWork, no_words, of_words}
use Rattle.command_rows.specs.RowsWork.{no_file, no_library}

no_output_work : (held : Option Held) (request : Request) (libraries : Libraries) → OutputWork held request libraries 0
no_output_work held request One = no_settings
no_output_work held request EachCorner = no_settings

-- any words may give no work
no_command_work : (held : Option Held) (command : Command) (request : Request) → CommandWork held command request 0
no_command_work held Wires request = no_file
no_command_work held Calc request = no_output_work held request (libraries_of request.given)
no_command_work held Show request = refl
no_command_work held Lookup request = no_library
no_command_work held Flat request = refl
no_command_work held Trial request = not_made
no_command_work held Help request = refl
no_command_work held Version request = refl

pub no_work_of_command : (held : Option Held) (command : Command) (request : Request) (steps : ℕ) → IsWithin (CommandWork held command request) steps steps
no_work_of_command held command request steps = record { work = 0; given = no_command_work held command request; bound = omega arith }

-- `calc` has the work of its calculation
pub calc_within : (held : Option Held) (command : Command) (request : Request) (before after : ℕ) → command ≡ Calc → IsWithin (OutputWork held request (libraries_of request.given)) before after
    → IsWithin (CommandWork held command request) before after
calc_within held command request before after is within = subst (λ (own : Command). IsWithin (CommandWork held own request) before after) (sym is) within

-- and `trial` that of its files
pub trial_within : (held : Option Held) (command : Command) (request : Request) (shape : Shape) (size before after : ℕ) → command ≡ Trial → Some shape ≡ shape_of (value_of request.given key.Shape)
    → IsSize (value_of request.given key.Size) size → IsWithin (TrialWork shape size) before after → IsWithin (CommandWork held command request) before after
trial_within held command request shape size before after is shape_reads size_reads within =
    subst (λ (own : Command). IsWithin (CommandWork held own request) before after) (sym is) (record {
      work = within.work;
      given = of_made (record { shape = shape; size = size; shape_reads = shape_reads; size_reads = size_reads; holds = within.given });
      bound = within.bound;
    })

pub no_words_work : (words : List (List ℕ)) (held : Option Held) (steps : ℕ) → IsWithin (WordsWork words held) steps steps
no_words_work words held steps = record { work = 0; given = no_words; bound = omega arith }

pub words_work : (words : List (List ℕ)) (held : Option Held) (request : Request) (before after : ℕ) → Asks words (Ok request) → IsWithin (CommandWork held request.command request) before after → IsWithin (WordsWork words held) before after
words_work words held request before after asks within = record { work = within.work; given = of_words request asks within.given; bound = within.bound }

-- a refusal that is early for a command is early
early_of : (command : Command) (refusal : Refusal) → IsEarlyOf command refusal → IsTrue (is_early refusal)
early_of Wires refusal early = early
early_of Calc refusal early = early
early_of Show refusal early = early
early_of Lookup refusal early = early
early_of Flat refusal early = early
early_of Trial refusal early = early
early_of Help refusal early = early
early_of Version refusal early = early

pub before_trees : (words : List (List ℕ)) (outcome : Outcome) (before after : ℕ) → OnEarlyAnswer outcome (after ≡ before) → BeforeTrees words outcome (after ≡ before)
before_trees words outcome.Done before after early = tt
before_trees words (outcome.Refused refusal) before after early = λ request asks own. early (early_of request.command refusal own)
before_trees words (outcome.Usage fault) before after early = early
before_trees words (outcome.ReadFault key) before after early = λ request asks own. early
before_trees words outcome.WriteFault before after early = tt
before_trees words outcome.OutOfMemory before after early = tt
