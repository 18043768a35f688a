-- The phases of the delays of a design, one after another.
use Rattle.std.proofs.Common.{◌≡◌, ℕ, Result, Ok, Err, sym, subst}
use Rattle.std.specs.Prelude.{IsErrAnd}
use Rattle.sdf_writer.specs.SdfText.{SdfRows}
use Rattle.net_delays.specs.NetTimes.{NetTimes}
use Rattle.slew_order.specs.Slews.{SlewTables}
use Rattle.annotation_rows.specs.Annotation.{annotation_of}
use Rattle.annotation_rows.specs.PathRows.{timed_of}
use Rattle.verdict_phases.specs.Phases.{FollowsNoFile}
use Rattle.verdict_phases.specs.declared.ends.NoFileEnd.{NoFileEnd}
use Rattle.verdict_phases.specs.declared.ends.NoFileEnd.TheVariants as no_file
use Rattle.design_phases.specs.DesignReading.{LinkedDesign}
use Rattle.refusals.specs.declared.refusal.Refusal.{Refusal}
use Rattle.delay_core.specs.DesignTiming.{slew_source}
use Rattle.delay_core.specs.SlewPhase.{FindsSlews}
use Rattle.delay_core.specs.TimingHalves.{TimesNets, gets_rows}
use Rattle.delay_core.specs.declared.settings.Settings.{Settings}

-- the end of a phase that reads no file, handed on
no_file_on : (A B : Type 0) (end : NoFileEnd Refusal) (P : Result A Refusal → Type 0) (Q : Result B Refusal → Type 0) → FollowsNoFile P (Err end)
    → ((refusal : Refusal) → P (Err refusal) → Q (Err refusal)) → FollowsNoFile Q (Err end)
no_file_on A B (no_file.Refused refusal) P Q holds more = more refusal holds
no_file_on A B no_file.OutOfMemory P Q holds more = tt

pub refused_on : (A B : Type 0) (result : Result B (NoFileEnd Refusal)) (end : NoFileEnd Refusal) (P : Result A Refusal → Type 0) (Q : Result B Refusal → Type 0)
    → IsErrAnd result (λ other. other ≡ end) → FollowsNoFile P (Err end) → ((refusal : Refusal) → P (Err refusal) → Q (Err refusal)) → FollowsNoFile Q result
refused_on A B (Ok value) end P Q is holds more = absurd is
refused_on A B (Err other) end P Q is holds more = no_file_on A B other P Q (subst (λ (e : NoFileEnd Refusal). FollowsNoFile P (Err e)) (sym is) holds) more

-- the rows are those of the loads, the Elmore sums and the slews
pub timed_by : (count : ℕ) (design : LinkedDesign) (settings : Settings) (nets : NetTimes) (slews : SlewTables) (rows : SdfRows) → FindsSlews (slew_source count design nets settings) (Ok slews)
    → rows ≡ annotation_of settings.top (timed_of design.netlist design.cells count nets slews) → TimesNets count design nets settings (Ok (record { rows = rows; nets = nets; slews = slews }))
timed_by count design settings nets slews rows found is =
    subst (λ (r : SdfRows). TimesNets count design nets settings (Ok (record { rows = r; nets = nets; slews = slews }))) (sym is) (gets_rows slews found)
