-- What the end of the slews names is there.
use Rattle.std.specs.Prelude.{ℕ, ◌<◌, List, length, get_or, All, ⊤}
use Rattle.cell_models.specs.NamedSets.{NamedCells}
use Rattle.netlist_link.specs.FlatNetlist.{FlatNetlist, net_at}
use Rattle.netlist_link.specs.declared.ends.End.TheVariants.{Port}
use Rattle.slew_order.specs.FlatArcs.{IsArcAt}
use Rattle.slew_order.specs.SlewEnds.{IsPin}
use Rattle.slew_order.specs.declared.ends.SlewEnd.{SlewEnd}
use Rattle.slew_order.specs.declared.ends.SlewEnd.TheVariants.{Loop, Outside, PastTime, SlewLimit, OutOfMemory}

-- a sink of a net is there, and it is an input pin
pub record IsPinSink (netlist : FlatNetlist) (net sink : ℕ) : Type 0 where
  pub net_there : net < length netlist.nets
  pub sink_there : sink < length (net_at netlist net).sinks
  pub pin : IsPin (get_or (net_at netlist net).sinks sink (Port 0))

-- the arcs and the sink of an end are there
abbrev pub IsEndThere : FlatNetlist → List NamedCells → SlewEnd → Type 0
IsEndThere netlist cells (Loop cycle) = All (IsArcAt netlist cells) cycle
IsEndThere netlist cells (Outside at edge corner part outside) = IsArcAt netlist cells at
IsEndThere netlist cells (PastTime at edge corner part) = IsArcAt netlist cells at
IsEndThere netlist cells (SlewLimit net sink edge corner slew elmore) = IsPinSink netlist net sink
IsEndThere netlist cells OutOfMemory = ⊤
