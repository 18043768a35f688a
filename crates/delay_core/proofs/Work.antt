-- The work of the delays of a design.
use Rattle.std.proofs.Common.{◌≡◌, ℕ, ◌+◌, ◌≤◌, ◌⊎◌, inl, inr, List, length, Option, Result, Ok, Err, OnOk, subst, arith}
use Rattle.edge_io.specs.Holding.{Held}
use Rattle.spef_nets.specs.NetElements.{NetElements}
use Rattle.spef_nets.specs.Sections.{Corners}
use Rattle.spef_text.specs.Heads.{HeadText}
use Rattle.spef_text.specs.SpefFiles.{SpefText}
use Rattle.corner_set.specs.declared.choices.Missing.{Missing}
use Rattle.net_parasitics.specs.Inputs.{Inputs}
use Rattle.net_parasitics.specs.NetTrees.{NoneMissing}
use Rattle.net_parasitics.specs.WorkCounts.{IsWithin as NetsWithin}
use Rattle.verdict_phases.specs.Phases.{Go, FollowsNoFile}
use Rattle.verdict_phases.specs.declared.ends.NoFileEnd.{NoFileEnd}
use Rattle.net_delays.specs.NetTimes.{NetTimes}
use Rattle.design_phases.specs.DesignReading.{ReadInputs, LinkedDesign, LinksInputs, ReadsDesign, with_design}
use Rattle.wire_phases.specs.SpefPhases.{ParsesSpef, HeadsSpef, NetsSpef, through, ReadsSpefFile}
use Rattle.wire_phases.specs.SpefWork.{IsWithin}
use Rattle.refusals.specs.declared.refusal.Refusal.{Refusal}
use Rattle.delay_core.specs.AnnotationWork.{no_trees, of_nets, BytesWork, no_sections, of_sections, InputsWork, no_design, of_design, FilesWork, no_inputs, of_inputs}
use Rattle.delay_core.specs.DelayPhase.{FindsDelays, are_delays}
use Rattle.delay_core.specs.DesignTiming.{net_inputs}
use Rattle.delay_core.specs.TimingHalves.{slews_work, FileWork, DesignWork}
use Rattle.delay_core.specs.declared.settings.Files.{Files}
use Rattle.delay_core.specs.declared.settings.Settings.{Settings}

-- no section of a file is read yet
pub no_sections_work : {I : Type 0} (corners : Corners I) (design : LinkedDesign) (file : SpefText) (head : HeadText) (settings : Settings) (steps : ℕ) → IsWithin (FileWork corners design file head settings) steps steps
no_sections_work corners design file head settings steps = record { work = 0; given = λ bytes parses heads. no_sections; bound = omega arith }

-- the work of the trees of its sections, before so many steps that are left to the slews and the rows
pub sections_ahead : {I : Type 0} (corners : Corners I) (design : LinkedDesign) (file : SpefText) (head : HeadText) (settings : Settings) (nets : List NetElements) (before after : ℕ) → NetsSpef corners file head (Ok nets)
    → NoneMissing (net_inputs corners.count design nets settings) settings.missing → NetsWithin (net_inputs corners.count design nets settings) (length design.netlist.nets) before after
    → IsWithin (λ work. FileWork corners design file head settings (work + slews_work corners.count design)) before after
sections_ahead corners design file head settings nets before after says none trees = record {
  work = trees.work;
  given = λ bytes parses heads. of_sections (record { design = head.design; nets = nets }) (through file head nets parses heads says) (of_nets none trees.given);
  bound = trees.bound;
}

-- the work with those steps
pub with_rest : (Work : ℕ → Type 0) (rest before mid after : ℕ) → IsWithin (λ work. Work (work + rest)) before mid → after ≤ mid + rest → IsWithin Work before after
with_rest Work rest before mid after within more = record { work = within.work + rest; given = within.given; bound = let bound = within.bound in omega (arith, bound, more) }

-- the work of its sections: none where no tree is built
pub sections_work : {I : Type 0} (corners : Corners I) (design : LinkedDesign) (file : SpefText) (head : HeadText) (settings : Settings) (nets : List NetElements) (before after : ℕ) → NetsSpef corners file head (Ok nets)
    → NetsWithin (net_inputs corners.count design nets settings) (length design.netlist.nets) before after → (after ≡ before) ⊎ NoneMissing (net_inputs corners.count design nets settings) settings.missing
    → IsWithin (FileWork corners design file head settings) before after
sections_work corners design file head settings nets before after says trees (inl same) = record {
  work = 0;
  given = λ bytes parses heads. of_sections (record { design = head.design; nets = nets }) (through file head nets parses heads says) no_trees;
  bound = omega (arith, same);
}
sections_work corners design file head settings nets before after says trees (inr none) =
    with_rest (FileWork corners design file head settings) (slews_work corners.count design) before after after
    (sections_ahead corners design file head settings nets before after says none trees) (omega arith)

-- what delays tell: no net is missing
delays_tell : (inputs : Inputs) (missing : Missing) (times : NetTimes) → FindsDelays inputs missing (Ok times) → NoneMissing inputs missing
delays_tell inputs missing _ (are_delays times are) = are.none_missing

-- the same of the answer, whatever it is
pub sections_leave : {I : Type 0} (corners : Corners I) (design : LinkedDesign) (file : SpefText) (head : HeadText) (settings : Settings) (nets : List NetElements) (before after : ℕ) (result : Result NetTimes (NoFileEnd Refusal)) → NetsSpef corners file head (Ok nets)
    → NetsWithin (net_inputs corners.count design nets settings) (length design.netlist.nets) before after → FollowsNoFile (FindsDelays (net_inputs corners.count design nets settings) settings.missing) result
    → OnOk result (IsWithin (λ work. FileWork corners design file head settings (work + slews_work corners.count design)) before after)
sections_leave corners design file head settings nets before after (Ok times) says trees follows =
    sections_ahead corners design file head settings nets before after says (delays_tell (net_inputs corners.count design nets settings) settings.missing times follows) trees
sections_leave corners design file head settings nets before after (Err end) says trees follows = tt

-- the work of the file is that of its bytes
pub no_bytes_work : {I : Type 0} (corners : Corners I) (design : LinkedDesign) (bytes : List ℕ) (settings : Settings) (steps : ℕ) → IsWithin (BytesWork corners design bytes settings) steps steps
no_bytes_work corners design bytes settings steps = record { work = 0; given = no_sections; bound = omega arith }

pub bytes_work : {I : Type 0} (corners : Corners I) (design : LinkedDesign) (bytes : List ℕ) (settings : Settings) (file : SpefText) (head : HeadText) (before after : ℕ) → ParsesSpef bytes (Ok file) → HeadsSpef file (Ok head)
    → IsWithin (FileWork corners design file head settings) before after → IsWithin (BytesWork corners design bytes settings) before after
bytes_work corners design bytes settings file head before after parses heads within = record { work = within.work; given = within.given bytes parses heads; bound = within.bound }

pub bytes_leave : {I : Type 0} (corners : Corners I) (design : LinkedDesign) (bytes : List ℕ) (settings : Settings) (file : SpefText) (head : HeadText) (rest before after : ℕ) (result : Result NetTimes (NoFileEnd Refusal)) → ParsesSpef bytes (Ok file)
    → HeadsSpef file (Ok head) → OnOk result (IsWithin (λ work. FileWork corners design file head settings (work + rest)) before after)
    → OnOk result (IsWithin (λ work. BytesWork corners design bytes settings (work + rest)) before after)
bytes_leave corners design bytes settings file head rest before after (Ok times) parses heads within = record { work = within.work; given = within.given bytes parses heads; bound = within.bound }
bytes_leave corners design bytes settings file head rest before after (Err end) parses heads within = tt

module _ {I : Type 0} (held : Option Held) (corners : Corners I) (design : LinkedDesign) (spef : List ℕ) (settings : Settings) where
  pub no_design_work : (steps : ℕ) → IsWithin (DesignWork held corners design spef settings) steps steps
  no_design_work steps = record { work = 0; given = λ inputs links. no_design; bound = omega arith }

  -- the work of the bytes of the SPEF file, as they are lent
  lent : (text bytes : List ℕ) (work : ℕ) → ReadsSpefFile held spef (Go text) → bytes ≡ text → BytesWork corners design bytes settings work → DesignWork held corners design spef settings work
  lent text bytes work reads is given = λ inputs links. of_design design text links reads (subst (λ (b : List ℕ). BytesWork corners design b settings work) is given)

  pub lent_work : (text bytes : List ℕ) (before after : ℕ) → ReadsSpefFile held spef (Go text) → bytes ≡ text → IsWithin (BytesWork corners design bytes settings) before after
      → IsWithin (DesignWork held corners design spef settings) before after
  lent_work text bytes before after reads is within = record { work = within.work; given = lent text bytes within.work reads is within.given; bound = within.bound }

  pub lent_ahead : (text bytes : List ℕ) (rest before after : ℕ) → ReadsSpefFile held spef (Go text) → bytes ≡ text → IsWithin (λ work. BytesWork corners design bytes settings (work + rest)) before after
      → IsWithin (λ work. DesignWork held corners design spef settings (work + rest)) before after
  lent_ahead text bytes rest before after reads is within = record { work = within.work; given = lent text bytes (within.work + rest) reads is within.given; bound = within.bound }

module _ {I : Type 0} (held : Option Held) (corners : Corners I) (settings : Settings) where
  pub no_inputs_work : (inputs : ReadInputs) (spef : List ℕ) (steps : ℕ) → IsWithin (InputsWork held corners inputs spef settings) steps steps
  no_inputs_work inputs spef steps = record { work = 0; given = no_design; bound = omega arith }

  pub inputs_work : (inputs : ReadInputs) (spef : List ℕ) (design : LinkedDesign) (before after : ℕ) → LinksInputs inputs settings.top (Ok design) → IsWithin (DesignWork held corners design spef settings) before after
      → IsWithin (InputsWork held corners inputs spef settings) before after
  inputs_work inputs spef design before after links within = record { work = within.work; given = within.given inputs links; bound = within.bound }

  pub no_files_work : (files : Files) (steps : ℕ) → IsWithin (FilesWork held corners files settings) steps steps
  no_files_work files steps = record { work = 0; given = no_inputs; bound = omega arith }

  -- that of a design that is read, on a shelf that holds the same behind it
  pub files_work : (files : Files) (held' : Option Held) (design : LinkedDesign) (before after : ℕ) → held' ≡ held → ReadsDesign held corners.count files.netlist settings.top files.libraries (Go design)
      → IsWithin (DesignWork held' corners design files.spef settings) before after → IsWithin (FilesWork held corners files settings) before after
  files_work files held' _ before after same (with_design bytes inputs design reads are links) within = record {
    work = within.work;
    given = of_inputs bytes inputs reads are (subst (λ (h : Option Held). InputsWork h corners inputs files.spef settings within.work) same (within.given inputs links));
    bound = within.bound;
  }
