-- The parts of an annotated design agree.
use Rattle.std.proofs.Common.{ℕ, List, Ok, refl, sym, subst}
use Rattle.std.specs.Prelude.{unsigned_abs}
use Rattle.cell_models.specs.NamedSets.{NamedCells}
use Rattle.netlist_link.specs.FlatNetlist.{FlatNetlist}
use Rattle.corner_set.specs.declared.choices.Beyond.{Beyond}
use Rattle.corner_set.specs.declared.choices.WireSlew.{WireSlew}
use Rattle.net_delays.specs.NetTimes.{NetTimes, Fits}
use Rattle.slew_order.specs.Slews.{SlewTables, AreTablesOf, AreSlews}
use Rattle.slew_order.specs.Timings.{SlewSource, source_of}
use Rattle.net_parasitics.specs.Inputs.{Inputs}
use Rattle.corner_set.specs.declared.choices.Missing.{Missing}
use Rattle.design_phases.specs.DesignReading.{LinkedDesign}
use Rattle.delay_core.specs.AnnotatedDesigns.{AreSound, DesignDelays, with_delays_of, PartsAgree}
use Rattle.delay_core.specs.DelayPhase.{FindsDelays, are_delays}
use Rattle.delay_core.specs.DesignTiming.{slew_source}
use Rattle.delay_core.specs.SlewPhase.{FindsSlews, are_slews}
use Rattle.delay_core.specs.TimingHalves.{TimesNets, gets_rows}
use Rattle.delay_core.specs.declared.settings.Settings.{Settings}

-- what is found fits the netlist
pub delays_fit : (inputs : Inputs) (missing : Missing) (nets : NetTimes) → FindsDelays inputs missing (Ok nets) → Fits inputs.netlist nets
delays_fit inputs missing _ (are_delays nets are) = are.fits

pub slews_found : (source : SlewSource) (slews : SlewTables) → FindsSlews source (Ok slews) → AreSlews source slews
slews_found source _ (are_slews slews are) = are

pub tables_fit : (source : SlewSource) (slews : SlewTables) → FindsSlews source (Ok slews) → AreTablesOf source.netlist source.count slews
tables_fit source _ (are_slews slews are) = are.tables_are

-- the slews are those of what they keep
own_source : (netlist : FlatNetlist) (cells : List NamedCells) (count : ℕ) (nets : NetTimes) (beyond : Beyond) (mode : WireSlew) (slew : ℕ) (slews : SlewTables) → AreSlews (source_of netlist cells count nets beyond mode slew) slews
    → AreSlews (source_of netlist cells count nets slews.beyond slews.mode slews.slew) slews
own_source netlist cells count nets beyond mode slew slews are =
    subst (λ s. AreSlews (source_of netlist cells count nets slews.beyond slews.mode s) slews) (sym are.slew)
    (subst (λ m. AreSlews (source_of netlist cells count nets slews.beyond m slew) slews) (sym are.mode)
    (subst (λ b. AreSlews (source_of netlist cells count nets b mode slew) slews) (sym are.beyond) are))

-- the parts of a design with its delays agree
pub agree : (count : ℕ) (design : LinkedDesign) (nets : NetTimes) (settings : Settings) (delays : DesignDelays) → TimesNets count design nets settings (Ok delays)
    → AreSound count design.cells delays → PartsAgree count (with_delays_of design.netlist design.cells delays)
agree count design nets settings _ (gets_rows slews are) sound = record {
  slews = own_source design.netlist design.cells count nets settings.beyond settings.wire_slew (unsigned_abs settings.input_slew.0) slews (slews_found (slew_source count design nets settings) slews are);
  shaped = sound.shaped;
  small = sound.small;
  rows = refl;
}
