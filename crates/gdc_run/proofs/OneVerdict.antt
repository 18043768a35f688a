-- Two verdicts on the same words and on the same files are one.
use Rattle.std.proofs.Common.{◌≡◌, ℕ, List, [], ◌∷◌, Some, Result, Ok, Err, refl, ap, subst}
use Rattle.edge_io.specs.Holding.{Held}
use Rattle.verdict_phases.specs.Phases.{Step}
use Rattle.sdf_reader.specs.declared.rows.SdfRow.{SdfRow}
use Rattle.sdf_reader.proofs.OneFault.{one_fault}
use Rattle.sdf_reader.proofs.SoFar.{one_rows}
use Rattle.gdc_words.specs.CommandLine.{Request, value_of, pick_from, beyond_from, libraries_of}
use Rattle.gdc_words.specs.declared.commands.Command.{Command}
use Rattle.gdc_words.specs.declared.commands.Command.TheVariants.{Wires, Calc, Show, Lookup, Flat, Trial, Help, Version}
use Rattle.gdc_words.specs.declared.commands.Key.TheVariants as key
use Rattle.gdc_words.specs.declared.faults.UsageFault.{UsageFault}
use Rattle.gdc_words.proofs.Pairs.{one_request}
use Rattle.refusals.specs.declared.refusal.FileKey.{FileKey}
use Rattle.refusals.specs.declared.refusal.FileKey.TheVariants.{Sdf}
use Rattle.refusals.specs.declared.refusal.Refusal.{Refusal}
use Rattle.refusals.specs.declared.refusal.Refusal.TheVariants.{SdfSyntax}
use Rattle.gdc_run.specs.declared.output.Output.{Output}
use Rattle.gdc_run.specs.declared.output.Output.TheVariants as output
use Rattle.refusals.specs.OneStep.{HasOneAnswer}
use Rattle.wire_phases.specs.SpefPhases.{sole_corner}
use Rattle.design_phases.proofs.OneDesign.{one_design}
use Rattle.refusals.specs.Refused.{WithoutFile}
use Rattle.refusals.proofs.OneChain.{Steps, Then, stops, goes, one_plain, same_answers, one_then, one_made, one_by}
use Rattle.refusals.proofs.OneText.{one_file}
use Rattle.command_rows.specs.CommandRows.{ParsesSdf, is_sdf_file, is_no_sdf_file, ReadsSdf, ShowGives, WiresGives, LookupGives, FlatGives, at_sdf_reading, at_sdf, with_sdf_rows}
use Rattle.gdc_run.specs.Verdict.{CommandGives, Faulty, Answers}
use Rattle.gdc_run.specs.Putting.{As}
use Rattle.gdc_run.specs.OneVerdict.{OneVerdict}
use Rattle.gdc_run.proofs.OneCalc.{one_calc}
use Rattle.command_rows.proofs.OneLookup.{one_lookup}
use Rattle.gdc_run.proofs.OneGrains.{one_grains}
use Rattle.gdc_run.proofs.OnePut.{one_put}
use Rattle.gdc_run.proofs.OneTrial.{one_asked_trial}
use Rattle.command_rows.proofs.OneWires.{one_wires}

-- ---- `show`

-- bytes are one list of rows, or have one dead token
one_listing : (bytes : List ℕ) (one other : Result (List SdfRow) Refusal) → ParsesSdf bytes one → ParsesSdf bytes other → one ≡ other
one_listing bytes one other (is_sdf_file r x) (is_sdf_file s y) = ap Ok (one_rows bytes r s x y)
one_listing bytes one other (is_sdf_file r x) (is_no_sdf_file token cause fault) = absurd (fault.nothing r x)
one_listing bytes one other (is_no_sdf_file token cause fault) (is_sdf_file s y) = absurd (fault.nothing s y)
one_listing bytes one other (is_no_sdf_file token cause fault) (is_no_sdf_file other_token because its) =
    ap (λ n. Err (SdfSyntax n)) (one_fault bytes token other_token cause because fault its).0

-- the file is read, and then its bytes have an answer
show_view : (held : Held) (name : List ℕ) (step : Steps (List SdfRow)) → ShowGives (Some held) name step → Then (ReadsSdf (Some held) name) (λ bytes. WithoutFile (ParsesSdf bytes)) step
show_view held name _ (at_sdf_reading why r) = stops why r refl
show_view held name _ (at_sdf bytes refusal r parses) = goes bytes r parses
show_view held name _ (with_sdf_rows bytes rows r parses) = goes bytes r parses

one_show : (held : Held) (name : List ℕ) → HasOneAnswer (ShowGives (Some held) name)
one_show held name = one_by (ShowGives (Some held) name) (Then (ReadsSdf (Some held) name) (λ bytes. WithoutFile (ParsesSdf bytes))) (show_view held name)
    (one_then (ReadsSdf (Some held) name) (λ bytes. WithoutFile (ParsesSdf bytes)) (one_file held Sdf name)
    (λ bytes reads. one_plain (ParsesSdf bytes) (λ one other r s. same_answers one other (one_listing bytes one other r s))))

-- ---- the verdict

-- `lookup`, whose slew and load are one
abbrev Looks : Held → Request → ℕ → ℕ → Step Refusal FileKey Output → Type 0
Looks held request slew load step =
    As output.Arcs (LookupGives 1 0 (Some held) (value_of request.given key.Lib) (value_of request.given key.Cell) slew load (beyond_from request.given)) step

one_point : (held : Held) (request : Request) → HasOneAnswer (CommandGives (Some held) Lookup request)
one_point held request one other r s d e =
    let slew : s.slew ≡ r.slew = one_grains (value_of request.given key.Slew) s.slew r.slew s.slew_reads r.slew_reads in
    let load : s.load ≡ r.load = one_grains (value_of request.given key.Load) s.load r.load s.load_reads r.load_reads in
    let its : Looks held request r.slew r.load other =
    subst (λ (n : ℕ). Looks held request r.slew n other) load (subst (λ (n : ℕ). Looks held request n s.load other) slew s.holds) in
    one_put output.Arcs (LookupGives 1 0 (Some held) (value_of request.given key.Lib) (value_of request.given key.Cell) r.slew r.load (beyond_from request.given))
    (one_lookup 1 0 held (value_of request.given key.Lib) (value_of request.given key.Cell) r.slew r.load (beyond_from request.given)) one other r.holds its d e

one_command : (held : Held) (command : Command) (request : Request) → HasOneAnswer (CommandGives (Some held) command request)
one_command held Wires request = one_put output.Sdf (WiresGives (sole_corner (pick_from request.given)) (Some held) (value_of request.given key.Spef)) (one_wires held (pick_from request.given) (value_of request.given key.Spef))
one_command held Calc request = one_calc held request (libraries_of request.given)
one_command held Show request = one_put output.Listing (ShowGives (Some held) (value_of request.given key.Sdf)) (one_show held (value_of request.given key.Sdf))
one_command held Lookup request = one_point held request
one_command held Flat request = one_put output.Flat (FlatGives (Some held) (value_of request.given key.Netlist) (value_of request.given key.Top) (value_of request.given key.Lib))
    (one_design held 1 (value_of request.given key.Netlist) (value_of request.given key.Top) (value_of request.given key.Lib ∷ []))
one_command held Trial request = one_asked_trial request
one_command held Help request = one_made output.Help
one_command held Version request = one_made output.Version

abbrev asked : Request → Result Request UsageFault
asked request = Ok request

abbrev faulty : UsageFault → Result Request UsageFault
faulty fault = Err fault

-- the verdict is one, since the command that the words ask for has one answer
pub one_verdict_lem : OneVerdict
one_verdict_lem words held (Faulty f) (Faulty g) a b d e = let same : faulty f ≡ faulty g = one_request words (Err f) (Err g) a b in cc
one_verdict_lem words held (Faulty f) (Answers y) a b d e = let same : faulty f ≡ asked b.0 = one_request words (Err f) (Ok b.0) a b.1 in cc
one_verdict_lem words held (Answers x) (Faulty g) a b d e = let same : asked a.0 ≡ faulty g = one_request words (Ok a.0) (Err g) a.1 b in cc
one_verdict_lem words held (Answers x) (Answers y) a b d e =
    let same : asked a.0 ≡ asked b.0 = one_request words (Ok a.0) (Ok b.0) a.1 b.1 in
    let equal : b.0 ≡ a.0 = cc in
    one_command held a.0.command a.0 x y a.2 (subst (λ (r : Request). CommandGives (Some held) r.command r y) equal b.2) d e
