-- The files of a trial. No read fault comes of them: each that is read is held, and no fault is counted.
use Rattle.std.proofs.Common.{◌≡◌, ℕ, zero, suc, inl, inr, ◌∙◌, List, Some, None, Result, Ok, Err, refl, sym, subst, arith}
use Rattle.std.specs.Prelude.{slice_get, codes}
use Rattle.name_table.specs.WellSpelled.{IsWellSpelled}
use Rattle.sdf_read_back.specs.ReadBack.{ReadBack, AreFit}
use Rattle.sdf_read_back.specs.Rows.{read_back_rows}
use Rattle.sdf_reader.specs.Answers.{SaysRows, Gives}
use Rattle.sdf_reader.specs.declared.ends.SdfCause.{SdfCause}
use Rattle.sdf_reader.specs.declared.ends.SdfEnd.{SdfEnd}
use Rattle.sdf_reader.specs.declared.ends.SdfEnd.TheVariants.{Syntax}
use Rattle.sdf_reader.specs.declared.rows.SdfRow.{SdfRow}
use Rattle.sdf_writer.specs.SdfText.{SdfRows, sdf_text}
use Rattle.trial_files.specs.declared.files.TrialFiles.{TrialFiles}
use Rattle.verdict_phases.specs.Phases.{Follows}
use Rattle.verdict_phases.specs.declared.ends.PhaseEnd.{PhaseEnd}
use Rattle.verdict_phases.specs.declared.ends.PhaseEnd.TheVariants as phase
use Rattle.gdc_words.specs.declared.commands.Shape.{Shape}
use Rattle.refusals.specs.Refused.{AtReadFault}
use Rattle.wire_phases.specs.SpefPhases.{sole_corner}
use Rattle.wire_phases.specs.SpefWork.{IsWithin}
use Rattle.refusals.specs.declared.refusal.FileKey.{FileKey}
use Rattle.refusals.specs.declared.refusal.Refusal.{Refusal}
use Rattle.refusals.proofs.Places.{some_is}
use Rattle.delay_core.specs.Annotation.{files_read, IsAnnotationFault}
use Rattle.delay_core.specs.AnnotationWork.{FilesWork, no_inputs}
use Rattle.delay_core.specs.declared.settings.Files.{Files}
use Rattle.delay_core.specs.declared.settings.Settings.{Settings}
use Rattle.gdc_run.specs.Calculation.{DesignGives}
use Rattle.trial_files.specs.HeldFiles.{trial_held}
use Rattle.gdc_run.specs.Trial.{trial_files, trial_names, trial_settings, TrialRows, TrialWork}

-- ---- no read fault

is_held : (bytes : List ℕ) → Some bytes ≡ None → ⊥
is_held bytes none = cc

module _ (files : TrialFiles) where
  missing_as : (own name : List ℕ) → Some own ≡ Some name → trial_held files name ≡ None → trial_held files own ≡ None
  missing_as own name named missing = subst (λ (n : List ℕ). trial_held files n ≡ None) (sym (some_is own name named)) missing

  none_missing : (before : ℕ) (name : List ℕ) → slice_get (files_read trial_names) before ≡ Some name → trial_held files name ≡ None → ⊥
  none_missing zero name named missing = is_held files.netlist (missing_as (codes "netlist") name named missing)
  none_missing (suc zero) name named missing = is_held files.library (missing_as (codes "library") name named missing)
  none_missing (suc (suc zero)) name named missing = is_held files.spef (missing_as (codes "spef") name named missing)
  none_missing (suc (suc (suc before))) name named missing = cc

  no_fault : (opens opens' : ℕ) (key : FileKey) → IsAnnotationFault (Some (trial_held files)) 1 trial_names 0 0 opens opens' key → ⊥
  no_fault opens opens' key fault = elim fault.cause [
    | inl rose ↦ absurd (omega (arith, rose))
    | inr missing ↦ none_missing fault.before fault.name fault.named missing
  ]

  no_read_fault : {A : Type 0} (opens opens' : ℕ) (result : Result A (PhaseEnd Refusal FileKey))
      → AtReadFault result (IsAnnotationFault (Some (trial_held files)) 1 trial_names 0 0 opens opens') → AtReadFault result (λ key. ⊥)
  no_read_fault opens opens' (Ok value) fault = tt
  no_read_fault opens opens' (Err (phase.Refused refusal)) fault = tt
  no_read_fault opens opens' (Err (phase.ReadFault key)) fault = no_fault opens opens' key fault
  no_read_fault opens opens' (Err phase.OutOfMemory) fault = tt

-- ---- what is made is what is asked for

module _ (shape : Shape) (size : ℕ) where
  pub no_trial_work : (steps : ℕ) → IsWithin (TrialWork shape size) steps steps
  no_trial_work steps = record { work = 0; given = no_inputs; bound = omega arith }

  module _ (files : TrialFiles) (names : Files) (settings : Settings) (files_are : files ≡ trial_files shape size) (names_are : names ≡ trial_names) (settings_are : settings ≡ trial_settings) where
    these : (fact : TrialFiles → Files → Settings → Type 0) → fact files names settings → fact (trial_files shape size) trial_names trial_settings
    these fact holds =
        subst (λ (s : Settings). fact (trial_files shape size) trial_names s) settings_are
        (subst (λ (n : Files). fact (trial_files shape size) n settings) names_are (subst (λ (f : TrialFiles). fact f names settings) files_are holds))

    pub trial_follows : (result : Result SdfRows (PhaseEnd Refusal FileKey)) → Follows (DesignGives sole_corner (Some (trial_held files)) names settings) result → Follows (TrialRows shape size) result
    trial_follows result follows = these (λ f n s. Follows (DesignGives sole_corner (Some (trial_held f)) n s) result) follows

    pub trial_work : (before after : ℕ) → IsWithin (FilesWork (Some (trial_held files)) (sole_corner settings.pick) names settings) before after → IsWithin (TrialWork shape size) before after
    trial_work before after within = these (λ f n s. IsWithin (FilesWork (Some (trial_held f)) (sole_corner s.pick) n s) before after) within

    pub trial_reads : {A : Type 0} (opens opens' : ℕ) (result : Result A (PhaseEnd Refusal FileKey))
        → AtReadFault result (IsAnnotationFault (Some (trial_held files)) 1 names 0 0 opens opens') → AtReadFault result (λ key. ⊥)
    trial_reads opens opens' result fault =
        no_read_fault files opens opens' result (subst (λ (n : Files). AtReadFault result (IsAnnotationFault (Some (trial_held files)) 1 n 0 0 opens opens')) names_are fault)

-- ---- what is written is read back

pub written_says : (rows : SdfRows) (text bytes : List ℕ) → ReadBack IsWellSpelled → AreFit IsWellSpelled 1 rows → text ≡ sdf_text rows → bytes ≡ text → SaysRows bytes (read_back_rows rows)
written_says rows text bytes law fit text_is bytes_are = subst (λ (b : List ℕ). SaysRows b (read_back_rows rows)) (sym (bytes_are ∙ text_is)) (law 1 (inl refl) rows fit)

pub not_refused : (rows : List SdfRow) (end : SdfEnd) (token : ℕ) (cause : SdfCause) → end ≡ Syntax token cause → Gives rows (Err end) → ⊥
not_refused rows end token cause is gives = subst (λ (e : SdfEnd). Gives rows (Err e)) is gives
