-- The rows of the nets of a file are added one after another.
use Rattle.std.proofs.Common.{◌≡◌, ℕ, suc, ◌+◌, ◌≤◌, List, [], ◌∷◌, ◌++◌, length, take, drop, Some, Result, Ok, Err, refl, sym, subst}
use Rattle.std.specs.Prelude.{IsErrAnd, slice_get}
use Rattle.std.proofs.lemmas.List.{take_all}
use Rattle.corner_set.specs.declared.pick.Pick.{Pick}
use Rattle.sdf_writer.specs.SdfText.{SdfRows}
use Rattle.spef_text.specs.SpefFiles.{SpefText}
use Rattle.spef_text.specs.Heads.{HeadText}
use Rattle.spef_nets.specs.NetElements.{NetElements}
use Rattle.spef_nets.specs.Sections.{Corners}
use Rattle.verdict_phases.specs.Phases.{FollowsNoFile}
use Rattle.verdict_phases.specs.declared.ends.NoFileEnd.{NoFileEnd}
use Rattle.verdict_phases.specs.declared.ends.NoFileEnd.TheVariants as no_file
use Rattle.refusals.specs.declared.refusal.Refusal.{Refusal}
use Rattle.wire_phases.specs.NetRows.{AddsNetRows}
use Rattle.refusals.specs.Refused.{OnRefusal}
use Rattle.wire_phases.specs.SpefPhases.{sole_corner, DesignNets, ParsesSpef, HeadsSpef, NetsSpef, at_sections, through}
use Rattle.wire_phases.specs.WireNets.{NetGives, NetsGive, no_net, and_net, refused, RowsOf}
use Rattle.wire_phases.specs.WireRows.{SectionsGive, faulty_section, of_nets, TextGives, unread, of_design}
use Rattle.refusals.proofs.Places.{front_more, parts_at}

abbrev pub design_of : List ℕ → List NetElements → DesignNets
design_of design nets = record { design = design; nets = nets }

-- no net gives no row
pub no_rows_yet : (design : List ℕ) (nets : List NetElements) (rows : SdfRows) → rows ≡ record { design = design; wires = []; paths = [] } → RowsOf 1 (design_of design (take 0 nets)) (Ok rows)
no_rows_yet design nets rows is = subst (λ (r : SdfRows). RowsOf 1 (design_of design []) (Ok r)) (sym is) (refl, no_net, refl)

-- one net more
pub one_net_more : (design : List ℕ) (nets : List NetElements) (i : ℕ) (net : NetElements) (old new : SdfRows) → slice_get nets i ≡ Some net → RowsOf 1 (design_of design (take i nets)) (Ok old) → AddsNetRows net old new
    → RowsOf 1 (design_of design (take (i + 1) nets)) (Ok new)
one_net_more design nets i net old new here front added =
    subst (λ (l : List NetElements). RowsOf 1 (design_of design l) (Ok new)) (sym (front_more nets i net here))
    (subst (λ (r : SdfRows). RowsOf 1 (design_of design (take i nets ++ net ∷ [])) (Ok r)) (sym added.is) (front.0, and_net front.1 added.given, front.2))

-- a net is refused behind others that are not
pub refused_there : (design : List ℕ) (nets : List NetElements) (i : ℕ) (net : NetElements) (rows : SdfRows) (refusal : Refusal) → slice_get nets i ≡ Some net → RowsOf 1 (design_of design (take i nets)) (Ok rows) → NetGives 1 net (Err refusal)
    → RowsOf 1 (design_of design nets) (Err refusal)
refused_there design nets i net rows refusal here front refuses =
    let whole : nets ≡ take i nets ++ net ∷ drop (suc i) nets = parts_at nets i net here in
    subst (λ (l : List NetElements). NetsGive 1 l (Err refusal)) (sym whole) (refused (drop (suc i) nets) front.1 refuses)

-- the same of the code's answer
abbrev pub refused_by : NoFileEnd Refusal → Result SdfRows (NoFileEnd Refusal)
refused_by end = Err end

pub refusal_follows : (design : List ℕ) (nets : List NetElements) (i : ℕ) (net : NetElements) (rows : SdfRows) (result : Result SdfRows (NoFileEnd Refusal)) (end : NoFileEnd Refusal) → slice_get nets i ≡ Some net → RowsOf 1 (design_of design (take i nets)) (Ok rows)
    → IsErrAnd result (λ other. other ≡ end) → OnRefusal {A = Unit {0}} (Err end) (λ refusal. NetGives 1 net (Err refusal)) → FollowsNoFile (RowsOf 1 (design_of design nets)) result
refusal_follows design nets i net rows (Ok value) end here front is refuses = absurd is
refusal_follows design nets i net rows (Err other) end here front is refuses = subst (λ (e : NoFileEnd Refusal). FollowsNoFile (RowsOf 1 (design_of design nets)) (refused_by e)) (sym is) (by end refuses)
  where
    by : (end : NoFileEnd Refusal) → OnRefusal {A = Unit {0}} (Err end) (λ refusal. NetGives 1 net (Err refusal)) → FollowsNoFile (RowsOf 1 (design_of design nets)) (refused_by end)
    by (no_file.Refused refusal) refuses = refused_there design nets i net rows refusal here front refuses
    by no_file.OutOfMemory refuses = tt

-- the rows of all nets
pub all_nets_added : (design : List ℕ) (nets : List NetElements) (i : ℕ) (rows : SdfRows) → length nets ≤ i → RowsOf 1 (design_of design (take i nets)) (Ok rows) → RowsOf 1 (design_of design nets) (Ok rows)
all_nets_added design nets i rows all front = subst (λ (l : List NetElements). RowsOf 1 (design_of design l) (Ok rows)) (take_all i nets all) front

-- the rows of the nets at one corner are those of the sections
pub sole_nets_give : {pick : Pick} {file : SpefText} {head : HeadText} (nets : List NetElements) (answer : Result SdfRows Refusal) → NetsSpef (sole_corner pick) file head (Ok nets) → RowsOf 1 (design_of head.design nets) answer
    → SectionsGive (sole_corner pick) file head answer
sole_nets_give nets answer reads rows = of_nets nets answer reads rows

-- the rows of the nets are those of the text, as far as it is one
pub text_gives : {I : Type 0} (corners : Corners I) (bytes : List ℕ) (file : SpefText) (head : HeadText) (answer : Result SdfRows Refusal) → ParsesSpef bytes (Ok file) → HeadsSpef file (Ok head) → SectionsGive corners file head answer → TextGives corners bytes answer
text_gives corners bytes file head answer parses heads (faulty_section refusal faulty) = unread refusal (at_sections file head refusal parses heads faulty)
text_gives corners bytes file head answer parses heads (of_nets nets its reads rows) = of_design (design_of head.design nets) answer (through file head nets parses heads reads) rows

-- the same of what follows them, want of memory aside
pub text_follows : {I : Type 0} (corners : Corners I) (bytes : List ℕ) (file : SpefText) (head : HeadText) (answer : Result SdfRows (NoFileEnd Refusal)) → ParsesSpef bytes (Ok file) → HeadsSpef file (Ok head)
    → FollowsNoFile (SectionsGive corners file head) answer → FollowsNoFile (TextGives corners bytes) answer
text_follows corners bytes file head (Ok rows) parses heads follows = text_gives corners bytes file head (Ok rows) parses heads follows
text_follows corners bytes file head (Err (no_file.Refused refusal)) parses heads follows = text_gives corners bytes file head (Err refusal) parses heads follows
text_follows corners bytes file head (Err no_file.OutOfMemory) parses heads follows = tt
