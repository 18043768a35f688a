-- `trial` has one answer.
use Rattle.std.proofs.Common.{◌≡◌, ℕ, List, refl, sym, ◌∙◌, subst, arith}
use Rattle.sdf_read_back.specs.Rows.{read_back_rows}
use Rattle.sdf_reader.specs.declared.rows.SdfRow.{SdfRow}
use Rattle.verdict_phases.specs.Phases.{Step}
use Rattle.gdc_words.specs.CommandLine.{Request}
use Rattle.gdc_words.specs.declared.commands.Shape.{Shape}
use Rattle.refusals.specs.OneStep.{HasOneAnswer}
use Rattle.wire_phases.specs.SpefPhases.{sole_corner}
use Rattle.refusals.specs.declared.refusal.FileKey.{FileKey}
use Rattle.refusals.specs.declared.refusal.Refusal.{Refusal}
use Rattle.refusals.proofs.OneChain.{Steps, one_by}
use Rattle.wire_phases.proofs.OneNet.{sole_numbered}
use Rattle.refusals.proofs.Places.{some_is}
use Rattle.gdc_run.specs.Putting.{As}
use Rattle.trial_files.specs.HeldFiles.{trial_held}
use Rattle.gdc_run.specs.Trial.{trial_files, trial_names, trial_settings, TrialRows, TrialGives, is_refused, is_read_back, ReadsTrial}
use Rattle.gdc_run.specs.declared.output.Output.{Output}
use Rattle.gdc_run.specs.declared.output.Output.TheVariants as output
use Rattle.gdc_run.proofs.OneCalc.{one_rows}
use Rattle.gdc_run.proofs.OnePut.{one_put}

module _ (shape : Shape) (size : ℕ) where
  -- what is read back is put together from the rows
  view : (step : Steps (List SdfRow)) → TrialGives shape size step → As read_back_rows (TrialRows shape size) step
  view _ (is_refused refusal gives) = gives
  view _ (is_read_back rows gives) = (rows, gives, refl)

  one_trial : HasOneAnswer (TrialGives shape size)
  one_trial = one_by (TrialGives shape size) (As read_back_rows (TrialRows shape size)) view
      (one_put read_back_rows (TrialRows shape size) (one_rows sole_corner sole_numbered (λ pick. omega arith) (trial_held (trial_files shape size)) trial_names trial_settings))

abbrev Makes : Shape → ℕ → Step Refusal FileKey Output → Type 0
Makes shape size step = As output.Summary (TrialGives shape size) step

-- the shape and the size that are asked for are one
pub one_asked_trial : (request : Request) → HasOneAnswer (λ step. ReadsTrial request (λ shape size. Makes shape size step))
one_asked_trial request one other r s d e =
    let shape : s.shape ≡ r.shape = some_is s.shape r.shape (s.shape_reads ∙ sym r.shape_reads) in
    let size : s.size ≡ r.size = s.size_reads.reads ∙ sym r.size_reads.reads in
    let its : Makes r.shape r.size other = subst (λ (n : ℕ). Makes r.shape n other) size (subst (λ (h : Shape). Makes h s.size other) shape s.holds) in
    one_put output.Summary (TrialGives r.shape r.size) (one_trial r.shape r.size) one other r.holds its d e
