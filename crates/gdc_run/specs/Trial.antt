-- What `trial` calculates, and what it reads back: the files of a shape and a size, and settings that are fixed.
use Rattle.std.specs.Prelude.{◌≡◌, ℕ, pos, List, [], ◌∷◌, codes, Some}
use Rattle.corner_set.specs.declared.pick.Pick.TheVariants.{Typ}
use Rattle.corner_set.specs.declared.choices.Missing.TheVariants as missing
use Rattle.corner_set.specs.declared.choices.Beyond.TheVariants as beyond
use Rattle.sdf_read_back.specs.Rows.{read_back_rows}
use Rattle.sdf_reader.specs.declared.rows.SdfRow.{SdfRow}
use Rattle.sdf_writer.specs.SdfText.{SdfRows}
use Rattle.trial_files.specs.TrialLibrary.{trial_library}
use Rattle.trial_files.specs.ChainNetlist.{chain_netlist}
use Rattle.trial_files.specs.ChainSpef.{chain_spef}
use Rattle.trial_files.specs.BlockNetlist.{block_netlist}
use Rattle.trial_files.specs.BlockSpef.{block_spef}
use Rattle.trial_files.specs.HeldFiles.{trial_held}
use Rattle.trial_files.specs.declared.files.TrialFiles.{TrialFiles}
use Rattle.verdict_phases.specs.Phases.{RefusedBy, Step, Go, Halt}
use Rattle.corner_set.specs.declared.choices.WireSlew.TheVariants as wire
use Rattle.gdc_words.specs.CommandLine.{Request, shape_of, value_of}
use Rattle.gdc_words.specs.Sizes.{IsSize}
use Rattle.gdc_words.specs.declared.commands.Key.TheVariants as key
use Rattle.gdc_words.specs.declared.commands.Shape.{Shape}
use Rattle.gdc_words.specs.declared.commands.Shape.TheVariants.{Chain, Block}
use Rattle.wire_phases.specs.SpefPhases.{sole_corner}
use Rattle.refusals.specs.declared.refusal.FileKey.{FileKey}
use Rattle.refusals.specs.declared.refusal.Refusal.{Refusal}
use Rattle.delay_core.specs.AnnotationWork.{FilesWork}
use Rattle.delay_core.specs.declared.settings.Files.{Files}
use Rattle.delay_core.specs.declared.settings.Settings.{Settings}
use Rattle.gdc_run.specs.Calculation.{DesignGives}

-- the files of a shape and a size
abbrev pub trial_files : Shape → ℕ → TrialFiles
trial_files Chain size = record { netlist = chain_netlist; library = trial_library; spef = chain_spef size }
trial_files Block size = record { netlist = block_netlist size; library = trial_library; spef = block_spef size }

-- their names
abbrev pub trial_names : Files
trial_names = record { netlist = codes "netlist"; libraries = codes "library" ∷ []; spef = codes "spef" }

-- the module `top`, with a slew of 20 ps at its input ports and no load at its output ports; the rest as where the words of `calc` ask for
-- nothing else
abbrev pub trial_settings : Settings
trial_settings = record {
  top = codes "top";
  input_slew = record { 0 = pos 20000000 };
  port_load = record { 0 = 0 };
  pick = Typ;
  missing = missing.Refuse;
  beyond = beyond.Refuse;
  wire_slew = wire.Same;
}

-- the design of the files of a shape and a size gets its delays
abbrev pub TrialRows : Shape → ℕ → Step Refusal FileKey SdfRows → Type 0
TrialRows shape size step = DesignGives sole_corner (Some (trial_held (trial_files shape size))) trial_names trial_settings step

-- The rows of its delays are what is read back of their SDF text, or the design is refused. No file is read that is not held.
pub data TrialGives (shape : Shape) (size : ℕ) : Step Refusal FileKey (List SdfRow) → Type 0 where
  is_refused : (refusal : Refusal) → TrialRows shape size (Halt (RefusedBy refusal)) → TrialGives shape size (Halt (RefusedBy refusal))
  is_read_back : (rows : SdfRows) → TrialRows shape size (Go rows) → TrialGives shape size (Go (read_back_rows rows))

-- its work, which is that of its files
abbrev pub TrialWork : Shape → ℕ → ℕ → Type 0
TrialWork shape size work = FilesWork (Some (trial_held (trial_files shape size))) (sole_corner Typ) trial_names trial_settings work

-- a fact of the shape and the size that are asked for
pub record ReadsTrial (request : Request) (fact : Shape → ℕ → Type 0) : Type 0 where
  pub shape : Shape
  pub size : ℕ
  pub shape_reads : Some shape ≡ shape_of (value_of request.given key.Shape)
  pub size_reads : IsSize (value_of request.given key.Size) size
  pub holds : fact shape size
