-- `wires` has one answer, but for the resistor of a mesh.
use Rattle.std.proofs.Common.{ℕ, inl, List, Some, Result, Ok, Err, refl, subst}
use Rattle.std.specs.Prelude.{All}
use Rattle.corner_set.specs.declared.pick.Pick.{Pick}
use Rattle.edge_io.specs.Holding.{Held}
use Rattle.sdf_writer.specs.SdfText.{SdfRows}
use Rattle.spef_text.specs.SpefFiles.{SpefText}
use Rattle.spef_text.specs.Heads.{HeadText}
use Rattle.spef_nets.specs.NetElements.{NetElements, AreWhole}
use Rattle.refusals.specs.declared.refusal.FileKey.TheVariants.{Spef}
use Rattle.refusals.specs.declared.refusal.Refusal.{Refusal}
use Rattle.refusals.specs.SameAnswers.{SameAnswer}
use Rattle.wire_phases.specs.SpefPhases.{sole_corner, DesignNets, NetsSpef, are_nets, ReadsNets, through, ReadsSpefFile}
use Rattle.wire_phases.specs.WireNets.{RowsOf}
use Rattle.wire_phases.specs.WireRows.{TextGives, unread, of_design}
use Rattle.command_rows.specs.CommandRows.{WiresGives, at_reading, at_spef, at_nets, with_rows}
use Rattle.refusals.specs.OneStep.{HasOneAnswer}
use Rattle.wire_phases.proofs.OneSpefFile.{one_file_refusal, no_design_beside, one_design}
use Rattle.wire_phases.proofs.OneNet.{sole_numbered}
use Rattle.wire_phases.proofs.OneRows.{one_rows}
use Rattle.refusals.specs.Refused.{WithoutFile}
use Rattle.refusals.proofs.OneChain.{Steps, Then, stops, goes, one_plain, one_then, one_by}
use Rattle.refusals.proofs.OneText.{one_file}

whole_nets : (pick : Pick) (file : SpefText) (head : HeadText) (nets : List NetElements) → NetsSpef (sole_corner pick) file head (Ok nets) → All (AreWhole 1) nets
whole_nets pick file head nets (are_nets same faultless are whole) = whole

whole_design : (pick : Pick) (bytes : List ℕ) (design : DesignNets) → ReadsNets (sole_corner pick) bytes (Ok design) → All (AreWhole 1) design.nets
whole_design pick bytes design (through file head nets parses heads says) = whole_nets pick file head nets says

-- the text of a file has one answer
one_text_answer : (pick : Pick) (bytes : List ℕ) (one other : Result SdfRows Refusal) → TextGives (sole_corner pick) bytes one → TextGives (sole_corner pick) bytes other → SameAnswer one other
one_text_answer pick bytes one other (unread f r) (unread g s) = inl (one_file_refusal (sole_corner pick) bytes f g r s)
one_text_answer pick bytes one other (unread f r) (of_design design answer s rows) = absurd (no_design_beside (sole_corner pick) bytes f design r s)
one_text_answer pick bytes one other (of_design design answer s rows) (unread f r) = absurd (no_design_beside (sole_corner pick) bytes f design r s)
one_text_answer pick bytes one other (of_design design answer r rows) (of_design more its s others) =
    one_rows design (whole_design pick bytes design r) answer its rows (subst (λ (d : DesignNets). RowsOf 1 d its) (one_design (sole_corner pick) (sole_numbered pick) bytes more design s r) others)

-- the file is read, and then its text has an answer
wires_view : (held : Held) (pick : Pick) (name : List ℕ) (step : Steps SdfRows) → WiresGives (sole_corner pick) (Some held) name step → Then (ReadsSpefFile (Some held) name) (λ bytes. WithoutFile (TextGives (sole_corner pick) bytes)) step
wires_view held pick name _ (at_reading why r) = stops why r refl
wires_view held pick name _ (at_spef bytes refusal r n) = goes bytes r (unread refusal n)
wires_view held pick name _ (at_nets bytes design refusal r n rows) = goes bytes r (of_design design (Err refusal) n rows)
wires_view held pick name _ (with_rows bytes design rows r n are) = goes bytes r (of_design design (Ok rows) n are)

pub one_wires : (held : Held) (pick : Pick) (name : List ℕ) → HasOneAnswer (WiresGives (sole_corner pick) (Some held) name)
one_wires held pick name = one_by (WiresGives (sole_corner pick) (Some held) name) (Then (ReadsSpefFile (Some held) name) (λ bytes. WithoutFile (TextGives (sole_corner pick) bytes))) (wires_view held pick name)
    (one_then (ReadsSpefFile (Some held) name) (λ bytes. WithoutFile (TextGives (sole_corner pick) bytes)) (one_file held Spef name) (λ bytes reads. one_plain (TextGives (sole_corner pick) bytes) (one_text_answer pick bytes)))
