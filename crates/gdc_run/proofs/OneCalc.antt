-- `calc` has one answer.
use Rattle.std.proofs.Common.{◌≡◌, ℕ, ◌<◌, List, Some, refl, sym, ◌∙◌, subst, arith, true≢false}
use Rattle.corner_set.specs.TripleCorners.{number_there}
use Rattle.corner_set.specs.declared.pick.Pick.{Pick}
use Rattle.edge_io.specs.Holding.{Held}
use Rattle.gdc_words.specs.CommandLine.{Request, value_of, IsPortLoad, given_load, no_load}
use Rattle.gdc_words.specs.Decimals.{IsGrains}
use Rattle.gdc_words.specs.declared.asked.Given.{Given}
use Rattle.gdc_words.specs.declared.commands.Key.TheVariants as key
use Rattle.gdc_words.specs.declared.commands.Libraries.{Libraries}
use Rattle.gdc_words.specs.declared.commands.Libraries.TheVariants.{One, EachCorner}
use Rattle.sdf_writer.specs.SdfText.{SdfRows}
use Rattle.spef_nets.specs.Sections.{Corners}
use Rattle.verdict_phases.specs.Phases.{Step}
use Rattle.refusals.specs.OneStep.{HasOneAnswer}
use Rattle.wire_phases.specs.SpefPhases.{sole_corner}
use Rattle.refusals.specs.declared.refusal.FileKey.{FileKey}
use Rattle.refusals.specs.declared.refusal.Refusal.{Refusal}
use Rattle.wire_phases.proofs.OneNet.{AreNumbered, sole_numbered}
use Rattle.refusals.proofs.Places.{some_is}
use Rattle.delay_core.specs.Annotation.{Annotates}
use Rattle.delay_core.specs.declared.settings.Files.{Files}
use Rattle.delay_core.specs.declared.settings.Settings.{Settings}
use Rattle.delay_core.proofs.OneAnnotation.{one_annotation}
use Rattle.gdc_run.specs.Calculation.{each_corner, files_with, settings_at, ReadsSettings, CalcGives}
use Rattle.gdc_run.specs.Putting.{As}
use Rattle.gdc_run.specs.Verdict.{CalcOutput}
use Rattle.gdc_run.specs.declared.output.Output.TheVariants as output
use Rattle.gdc_run.proofs.OneGrains.{one_grains}
use Rattle.gdc_run.proofs.OnePut.{one_put}

-- ---- the settings that are asked for

one_port_load : (given : List Given) (one other : ℕ) → IsPortLoad given one → IsPortLoad given other → one ≡ other
one_port_load given _ _ (given_load a r) (given_load b s) =
    let pair : r.pair ≡ s.pair = some_is r.pair s.pair (sym r.stands ∙ s.stands) in
    one_grains s.pair.value a b (subst (λ (g : Given). IsGrains g.value a) pair r.reads) s.reads
one_port_load given _ _ (given_load a r) (no_load none) = absurd (true≢false (sym r.decimal ∙ none r.pair r.stands))
one_port_load given _ _ (no_load none) (given_load b s) = absurd (true≢false (sym s.decimal ∙ none s.pair s.stands))
one_port_load given _ _ (no_load none) (no_load also) = refl

-- ---- the command

-- The rows of the design of these files are one, at the corners of any set.
module _ {I : Type 0} (corners : Pick → Corners I) (numbered : (pick : Pick) → AreNumbered (corners pick)) (some : (pick : Pick) → 0 < (corners pick).count) (held : Held) (files : Files) where
  abbrev Rows : Settings → Step Refusal FileKey SdfRows → Type 0
  Rows settings step = As (λ design. design.rows) (Annotates (Some held) (corners settings.pick) files settings) step

  pub one_rows : (settings : Settings) → HasOneAnswer (Rows settings)
  one_rows settings =
      one_put (λ design. design.rows) (Annotates (Some held) (corners settings.pick) files settings) (one_annotation (corners settings.pick) (numbered settings.pick) (some settings.pick) held files settings)

  module _ (request : Request) where
    -- and the settings that are asked for are
    pub one_calculation : HasOneAnswer (λ step. ReadsSettings request (λ settings. Rows settings step))
    one_calculation one other r s d e =
        let slew : s.slew ≡ r.slew = one_grains (value_of request.given key.InputSlew) s.slew r.slew s.slew_reads r.slew_reads in
        let load : s.load ≡ r.load = one_port_load request.given s.load r.load s.load_reads r.load_reads in
        let its : Rows (settings_at request r.slew r.load) other =
        subst (λ (n : ℕ). Rows (settings_at request r.slew n) other) load (subst (λ (n : ℕ). Rows (settings_at request n s.load) other) slew s.holds) in
        one_rows (settings_at request r.slew r.load) one other r.holds its d e

-- each corner of three has its number
each_numbered : (pick : Pick) → AreNumbered (each_corner pick)
each_numbered pick number below = let there = number_there number below in (there.0, there.2)

-- what is written is one, with one library and with one for each corner
pub one_calc : (held : Held) (request : Request) (libraries : Libraries) → HasOneAnswer (CalcOutput (Some held) request libraries)
one_calc held request One = one_put output.Sdf (CalcGives sole_corner (Some held) (files_with request One) request)
    (one_calculation sole_corner sole_numbered (λ pick. omega arith) held (files_with request One) request)
one_calc held request EachCorner = one_put output.SdfOfCorners (CalcGives each_corner (Some held) (files_with request EachCorner) request)
    (one_calculation each_corner each_numbered (λ pick. omega arith) held (files_with request EachCorner) request)
