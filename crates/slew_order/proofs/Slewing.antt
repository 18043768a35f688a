-- What is kept of slews are the slews of the design.
use Rattle.std.proofs.Common.{◌≡◌, ℕ, ◌∙◌, List, length}
use Rattle.std.specs.Prelude.{All}
use Rattle.slew_states.specs.declared.states.EdgeStates.{EdgeStates}
use Rattle.corner_set.specs.declared.choices.Beyond.{Beyond}
use Rattle.corner_set.specs.declared.choices.WireSlew.{WireSlew}
use Rattle.slew_order.specs.Cycles.{HasNoCycle}
use Rattle.slew_order.specs.Designs.{IsSource}
use Rattle.slew_order.specs.NetStates.{AreNetStates}
use Rattle.slew_order.specs.Sinks.{ArePinStarts, IsSunk}
use Rattle.slew_order.specs.SinkPlaces.{ArePlaces}
use Rattle.slew_order.specs.SlewEnds.{NoRefusals, NoLimits}
use Rattle.slew_order.specs.Slews.{AreSlews, tables_of}
use Rattle.slew_order.specs.Timings.{SlewSource, arcs_in}
use Rattle.slew_order.proofs.Links.{net_in}
use Rattle.slew_order.proofs.Settling.{many_drivers}

pub slews_are : (source : SlewSource) (corners : List (List EdgeStates)) (starts places : List ℕ) (beyond : Beyond) (mode : WireSlew) (slew : ℕ) → IsSource source → All (IsSunk source.netlist source.cells) (arcs_in source)
    → HasNoCycle source.netlist source.cells → NoRefusals source (length (arcs_in source)) → NoLimits source (length source.netlist.nets)
    → AreNetStates source corners → ArePinStarts source.netlist starts → ArePlaces source.netlist starts places → beyond ≡ source.beyond → mode ≡ source.mode → slew ≡ source.slew
    → AreSlews source (tables_of corners starts places beyond mode slew)
slews_are source corners starts places beyond mode slew is sunk no_cycle no_refusal no_limit states starts_are places_are beyond_is mode_is slew_is = record {
  source_is = is;
  related = sunk;
  no_cycle = no_cycle;
  no_refusal = no_refusal;
  no_limit = no_limit;
  states = states;
  tables_are = record {
    corners = states.len;
    nets = λ corner below. (states.each corner below).settled.len ∙ many_drivers source.netlist;
    small = λ corner net edge below. (states.each corner below).small net edge;
    pins = net_in source.cells source.netlist is.linked;
    starts = starts_are;
    places = places_are;
  };
  beyond = beyond_is;
  mode = mode_is;
  slew = slew_is;
}
