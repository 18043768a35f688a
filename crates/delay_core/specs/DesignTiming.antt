-- A linked design gets its delays from the sections of a SPEF file.
use Rattle.std.specs.Prelude.{ℕ, pos, ◌≤◌, ◌≤ℤ◌, unsigned_abs, List, Result, Ok, Err}
use Rattle.delay_units.specs.Bounds.{most_farads}
use Rattle.spef_nets.specs.NetElements.{NetElements}
use Rattle.slew_states.specs.PinState.{most}
use Rattle.net_delays.specs.NetTimes.{NetTimes}
use Rattle.slew_order.specs.Slews.{SlewTables}
use Rattle.slew_order.specs.Timings.{SlewSource, source_of}
use Rattle.net_parasitics.specs.Inputs.{Inputs, inputs_of}
use Rattle.annotation_rows.specs.Annotation.{annotation_of}
use Rattle.annotation_rows.specs.PathRows.{timed_of}
use Rattle.design_phases.specs.DesignReading.{LinkedDesign}
use Rattle.refusals.specs.declared.refusal.Refusal.{Refusal}
use Rattle.delay_core.specs.AnnotatedDesigns.{DesignDelays}
use Rattle.delay_core.specs.DelayPhase.{FindsDelays}
use Rattle.delay_core.specs.SlewPhase.{FindsSlews}
use Rattle.delay_core.specs.declared.settings.Settings.{Settings}

-- the slew of the input ports is from 0 to a microsecond, and the load of an output port at most a nanofarad
pub record AreInRange (settings : Settings) : Type 0 where
  pub slew : pos 0 ≤ℤ settings.input_slew.0
  pub slew_within : settings.input_slew.0 ≤ℤ pos most
  pub load_within : settings.port_load.0 ≤ most_farads

-- what the loads and the Elmore sums come from, at so many corners
abbrev pub net_inputs : ℕ → LinkedDesign → List NetElements → Settings → Inputs
net_inputs count design sections settings = inputs_of count design.netlist design.cells sections settings.port_load

-- what the slews come from
abbrev pub slew_source : ℕ → LinkedDesign → NetTimes → Settings → SlewSource
slew_source count design nets settings =
    source_of design.netlist design.cells count nets settings.beyond settings.wire_slew (unsigned_abs settings.input_slew.0)

-- the delays with these loads and Elmore sums and these slews
abbrev pub delays_by : ℕ → List ℕ → LinkedDesign → NetTimes → SlewTables → DesignDelays
delays_by count top design nets slews = record {
  rows = annotation_of top (timed_of design.netlist design.cells count nets slews);
  nets = nets;
  slews = slews;
}

-- the loads and the Elmore sums are found, then the slews, and then the rows
pub data TimesDesign (count : ℕ) (design : LinkedDesign) (sections : List NetElements) (settings : Settings)
    : Result DesignDelays Refusal → Type 0 where
  at_delays : (refusal : Refusal) → FindsDelays (net_inputs count design sections settings) settings.missing (Err refusal)
      → TimesDesign count design sections settings (Err refusal)
  at_slews : (nets : NetTimes) (refusal : Refusal) → FindsDelays (net_inputs count design sections settings) settings.missing (Ok nets)
      → FindsSlews (slew_source count design nets settings) (Err refusal) → TimesDesign count design sections settings (Err refusal)
  with_rows : (nets : NetTimes) (slews : SlewTables)
      → FindsDelays (net_inputs count design sections settings) settings.missing (Ok nets)
      → FindsSlews (slew_source count design nets settings) (Ok slews)
      → TimesDesign count design sections settings (Ok (delays_by count settings.top design nets slews))
