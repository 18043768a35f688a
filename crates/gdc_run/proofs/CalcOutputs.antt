-- The rows at the corners of the libraries that are asked for are what `calc` has to write.
use Rattle.std.proofs.Common.{◌≡◌, ℕ, Option, refl, sym, ap, ◌∙◌, subst}
use Rattle.corner_set.specs.declared.pick.Pick.{Pick}
use Rattle.edge_io.specs.Holding.{Held}
use Rattle.sdf_writer.specs.SdfText.{SdfRows}
use Rattle.spef_nets.specs.Sections.{Corners}
use Rattle.verdict_phases.specs.Phases.{Stop, Step, Go, Halt}
use Rattle.gdc_words.specs.CommandLine.{Request, libraries_of}
use Rattle.gdc_words.specs.declared.commands.Libraries.{Libraries}
use Rattle.gdc_words.specs.declared.commands.Libraries.TheVariants.{One, EachCorner}
use Rattle.wire_phases.specs.SpefPhases.{sole_corner}
use Rattle.wire_phases.specs.SpefWork.{IsWithin}
use Rattle.refusals.specs.declared.refusal.FileKey.{FileKey}
use Rattle.refusals.specs.declared.refusal.Refusal.{Refusal}
use Rattle.gdc_run.specs.Calculation.{each_corner, corner_count, files_with, files_from, CalcGives, CalcWork}
use Rattle.gdc_run.specs.Verdict.{CalcOutput}
use Rattle.gdc_run.specs.Work.{OutputWork}
use Rattle.gdc_run.specs.declared.output.Output.{Output}
use Rattle.gdc_run.specs.declared.output.Output.TheVariants as output

module _ (held : Option Held) (request : Request) (asked libraries : Libraries) (are : asked ≡ libraries) (same : asked ≡ libraries_of request.given) where
  these : libraries_of request.given ≡ libraries
  these = sym same ∙ are

  -- the corners of a run are as many as those of its libraries
  pub corners_are : corner_count libraries ≡ corner_count (libraries_of request.given)
  corners_are = ap corner_count (sym these)

  gives_with : {I : Type 0} (corners : Pick → Corners I) (step : Step Refusal FileKey SdfRows) → CalcGives corners held (files_from request) request step → CalcGives corners held (files_with request libraries) request step
  gives_with corners step gives = subst (λ (l : Libraries). CalcGives corners held (files_with request l) request step) these gives

  output_asked : (step : Step Refusal FileKey Output) → CalcOutput held request libraries step → CalcOutput held request (libraries_of request.given) step
  output_asked step gives = subst (λ (l : Libraries). CalcOutput held request l step) (sym these) gives

  work_with : {I : Type 0} (corners : Pick → Corners I) (before after : ℕ) → IsWithin (CalcWork corners held (files_from request) request) before after → IsWithin (CalcWork corners held (files_with request libraries) request) before after
  work_with corners before after within = subst (λ (l : Libraries). IsWithin (CalcWork corners held (files_with request l) request) before after) these within

  work_asked : (before after : ℕ) → IsWithin (OutputWork held request libraries) before after → IsWithin (OutputWork held request (libraries_of request.given)) before after
  work_asked before after within = subst (λ (l : Libraries). IsWithin (OutputWork held request l) before after) (sym these) within

module _ (held : Option Held) (request : Request) (asked : Libraries) (same : asked ≡ libraries_of request.given) where
  -- at one corner
  pub one_rows : (rows : SdfRows) → asked ≡ One → CalcGives sole_corner held (files_from request) request (Go rows) → CalcOutput held request (libraries_of request.given) (Go (output.Sdf rows))
  one_rows rows are gives = output_asked held request asked One are same (Go (output.Sdf rows)) (rows, gives_with held request asked One are same sole_corner (Go rows) gives, refl)

  pub one_halts : (why : Stop Refusal FileKey) → asked ≡ One → CalcGives sole_corner held (files_from request) request (Halt why) → CalcOutput held request (libraries_of request.given) (Halt why)
  one_halts why are gives = output_asked held request asked One are same (Halt why) (gives_with held request asked One are same sole_corner (Halt why) gives)

  pub one_work : (before after : ℕ) → asked ≡ One → IsWithin (CalcWork sole_corner held (files_from request) request) before after → IsWithin (OutputWork held request (libraries_of request.given)) before after
  one_work before after are within = work_asked held request asked One are same before after (work_with held request asked One are same sole_corner before after within)

  -- at each of three
  pub each_rows : (rows : SdfRows) → asked ≡ EachCorner → CalcGives each_corner held (files_from request) request (Go rows) → CalcOutput held request (libraries_of request.given) (Go (output.SdfOfCorners rows))
  each_rows rows are gives =
      output_asked held request asked EachCorner are same (Go (output.SdfOfCorners rows)) (rows, gives_with held request asked EachCorner are same each_corner (Go rows) gives, refl)

  pub each_halts : (why : Stop Refusal FileKey) → asked ≡ EachCorner → CalcGives each_corner held (files_from request) request (Halt why) → CalcOutput held request (libraries_of request.given) (Halt why)
  each_halts why are gives = output_asked held request asked EachCorner are same (Halt why) (gives_with held request asked EachCorner are same each_corner (Halt why) gives)

  pub each_work : (before after : ℕ) → asked ≡ EachCorner → IsWithin (CalcWork each_corner held (files_from request) request) before after → IsWithin (OutputWork held request (libraries_of request.given)) before after
  each_work before after are within = work_asked held request asked EachCorner are same before after (work_with held request asked EachCorner are same each_corner before after within)
