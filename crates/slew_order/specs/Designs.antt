-- What is kept of a design besides what its slews come from.
use Rattle.std.specs.Prelude.{◌≡◌, ℕ, ◌≤◌, List, map, All}
use Rattle.netlist_link.specs.Linked.{IsLinked}
use Rattle.slew_states.specs.PinState.{most}
use Rattle.slew_states.specs.declared.arcs.FlatArc.{FlatArc}
use Rattle.slew_order.specs.declared.arcs.ArcAt.{ArcAt}
use Rattle.slew_order.specs.FlatArcs.{IsArcAt}
use Rattle.net_delays.specs.NetTimes.{Fits}
use Rattle.slew_order.specs.Sinks.{IsSunk, related_sink}
use Rattle.slew_order.specs.Timings.{SlewSource, arcs_in, flat_in}

-- the netlist is linked with the cells, the loads and Elmore sums are of its nets and sinks, and the slew is a microsecond at most
pub record IsSource (source : SlewSource) : Type 0 where
  pub linked : IsLinked source.cells source.netlist
  pub fits : Fits source.netlist source.times
  pub small : source.slew ≤ most

-- the arcs, each also between nets, and which sink of its net its related pin is
pub record AreArcsIn (source : SlewSource) (arcs : List ArcAt) (flat : List FlatArc) (sinks : List ℕ) : Type 0 where
  pub source_is : IsSource source
  pub arcs_are : arcs ≡ arcs_in source
  pub there : All (IsArcAt source.netlist source.cells) arcs
  pub flat_are : flat ≡ flat_in source
  pub sinks_are : sinks ≡ map (related_sink source.netlist source.cells) arcs
  pub sunk : All (IsSunk source.netlist source.cells) arcs
