-- The work of a SPEF file.
use Rattle.std.proofs.Common.{◌≡◌, ℕ, ◌+◌, ◌≤◌, List, [], ◌∷◌, ◌++◌, take, drop, Ok, Err, sym, ◌∙◌, ap, arith}
use Rattle.std.specs.Prelude.{IsTrue, slice_get, Some, Result}
use Rattle.std.proofs.lemmas.List.{take-append-drop}
use Rattle.std.proofs.lemmas.List.Sums.{sum_by_push, sum_by-append}
use Rattle.corner_set.specs.declared.pick.Pick.{Pick}
use Rattle.spef_text.specs.SpefFiles.{SpefText}
use Rattle.spef_text.specs.Heads.{HeadText}
use Rattle.spef_nets.specs.NetElements.{NetElements}
use Rattle.spef_nets.specs.Sections.{Corners}
use Rattle.sdf_writer.specs.SdfText.{SdfRows}
use Rattle.verdict_phases.specs.Phases.{FollowsNoFile}
use Rattle.verdict_phases.specs.declared.ends.NoFileEnd.{NoFileEnd}
use Rattle.verdict_phases.specs.declared.ends.NoFileEnd.TheVariants as no_file
use Rattle.refusals.specs.declared.refusal.Refusal.{Refusal}
use Rattle.wire_phases.specs.SpefPhases.{sole_corner, DesignNets, ParsesSpef, HeadsSpef, NetsSpef}
use Rattle.wire_phases.specs.WireNets.{too_large, unreached, mesh, NetGives, no_driver, many_drivers, no_tree, NetsGive, refused, RowsOf}
use Rattle.wire_phases.specs.NetRows.{most_steps}
use Rattle.refusals.specs.Refused.{OnRefusal}
use Rattle.refusals.specs.EarlyRefusals.{is_early}
use Rattle.wire_phases.specs.SpefWork.{total_steps, SectionsWork, no_sections, of_sections, TextWork, no_head, of_head, IsWithin}
use Rattle.refusals.proofs.Places.{front_more}

-- no section is read without a fault yet, or all are at one corner, and the work is that of their nets
pub no_sections_work : {I : Type 0} (corners : Corners I) (file : SpefText) (head : HeadText) (steps : ℕ) → IsWithin (SectionsWork corners file head) steps steps
no_sections_work corners file head steps = record { work = 0; given = no_sections; bound = omega arith }

pub sections_work : (pick : Pick) (file : SpefText) (head : HeadText) (nets : List NetElements) (before after : ℕ) → NetsSpef (sole_corner pick) file head (Ok nets) → after ≤ before + total_steps 1 nets → IsWithin (SectionsWork (sole_corner pick) file head) before after
sections_work pick file head nets before after reads bound = record { work = total_steps 1 nets; given = of_sections nets reads; bound = bound }

-- the steps of one net more
pub steps_more : (nets : List NetElements) (i : ℕ) (net : NetElements) (before middle after : ℕ) → slice_get nets i ≡ Some net → middle ≤ before + total_steps 1 (take i nets) → after ≤ middle + most_steps 1 net → after ≤ before + total_steps 1 (take (i + 1) nets)
steps_more nets i net before middle after here front more =
    let taken : take (i + 1) nets ≡ take i nets ++ net ∷ [] = front_more nets i net here in
    let total : total_steps 1 (take (i + 1) nets) ≡ total_steps 1 (take i nets) + most_steps 1 net = ap (total_steps 1) taken ∙ sum_by_push (most_steps 1) (take i nets) net in
    omega (arith, front, more, total)

-- the steps of the first nets are no more than those of all
pub front_steps : (nets : List NetElements) (i : ℕ) → total_steps 1 (take i nets) ≤ total_steps 1 nets
front_steps nets i =
    let parts : total_steps 1 nets ≡ total_steps 1 (take i nets) + total_steps 1 (drop i nets) = ap (total_steps 1) (sym (take-append-drop i nets)) ∙ sum_by-append (most_steps 1) (take i nets) (drop i nets) in
    omega (arith, parts)

-- a refusal of a net is none that comes before a tree is built
net_late : (net : NetElements) (refusal : Refusal) → NetGives 1 net (Err refusal) → IsTrue (is_early refusal) → ⊥
net_late net refusal (no_driver is) early = cc
net_late net refusal (many_drivers one other others is) early = cc
net_late net refusal (no_tree driver same sole (too_large is)) early = cc
net_late net refusal (no_tree driver same sole (unreached node is)) early = cc
net_late net refusal (no_tree driver same sole (mesh resistor is)) early = cc

pub nets_late : (design : DesignNets) (refusal : Refusal) → RowsOf 1 design (Err refusal) → IsTrue (is_early refusal) → ⊥
nets_late design refusal gives early = by design.nets gives
  where
    by : (nets : List NetElements) → NetsGive 1 nets (Err refusal) → ⊥
    by all (refused {nets} {rows} {net} later before refuses) = net_late net refusal refuses early

-- so no step is asked of such a refusal where the nets gave the answer
pub late_refusal : (design : DesignNets) (before after : ℕ) (result : Result SdfRows (NoFileEnd Refusal)) → FollowsNoFile (RowsOf 1 design) result
    → OnRefusal result (λ refusal. IsTrue (is_early refusal) → after ≡ before)
late_refusal design before after (Ok rows) follows = tt
late_refusal design before after (Err (no_file.Refused refusal)) follows = λ early. absurd (nets_late design refusal follows early)
late_refusal design before after (Err no_file.OutOfMemory) follows = tt

-- the work of the sections is that of the text, and the work of the text that of the file
pub no_text_work : {I : Type 0} (corners : Corners I) (bytes : List ℕ) (steps : ℕ) → IsWithin (TextWork corners bytes) steps steps
no_text_work corners bytes steps = record { work = 0; given = no_head; bound = omega arith }

pub text_work : {I : Type 0} (corners : Corners I) (bytes : List ℕ) (file : SpefText) (head : HeadText) (before after : ℕ) → ParsesSpef bytes (Ok file) → HeadsSpef file (Ok head) → IsWithin (SectionsWork corners file head) before after → IsWithin (TextWork corners bytes) before after
text_work corners bytes file head before after parses heads within = record { work = within.work; given = of_head file head parses heads within.given; bound = within.bound }
