-- The slews of a design.
use Rattle.std.specs.Prelude.{◌≡◌, ℕ, ◌<◌, List, length, Some, All}
use Rattle.cell_models.specs.declared.edge.Edge.{Edge}
use Rattle.netlist_link.specs.FlatNetlist.{FlatNetlist}
use Rattle.slew_states.specs.PinState.{IsSmall}
use Rattle.slew_states.specs.Settled.{states_in}
use Rattle.slew_states.specs.declared.states.EdgeStates.{EdgeStates}
use Rattle.corner_set.specs.declared.choices.Beyond.{Beyond}
use Rattle.corner_set.specs.declared.choices.WireSlew.{WireSlew}
use Rattle.slew_order.specs.Cycles.{HasNoCycle}
use Rattle.slew_order.specs.Designs.{IsSource}
use Rattle.slew_order.specs.FlatArcs.{net_on}
use Rattle.slew_order.specs.NetStates.{AreNetStates, states_at}
use Rattle.slew_order.specs.Sinks.{ArePinStarts, IsSunk}
use Rattle.slew_order.specs.SinkPlaces.{ArePlaces}
use Rattle.slew_order.specs.SlewEnds.{NoRefusals, NoLimits}
use Rattle.slew_order.specs.Timings.{SlewSource, arcs_in}

-- What is kept of slews: the states of all nets at each corner, and of which sink of its net each pin is; what a look-up does past an
-- axis, what a wire does to a slew, and the slew of the input ports.
pub record SlewTables : Type 0 where
  pub corners : List (List EdgeStates)
  pub starts : List ℕ
  pub places : List ℕ
  pub beyond : Beyond
  pub mode : WireSlew
  pub slew : ℕ

abbrev pub tables_of : List (List EdgeStates) → List ℕ → List ℕ → Beyond → WireSlew → ℕ → SlewTables
tables_of corners starts places beyond mode slew =
    record { corners = corners; starts = starts; places = places; beyond = beyond; mode = mode; slew = slew }

-- there are states of all nets of a netlist at so many corners and no more, and the places of its pins
pub record AreTablesOf (netlist : FlatNetlist) (count : ℕ) (tables : SlewTables) : Type 0 where
  pub corners : length tables.corners ≡ count
  pub nets : (corner : ℕ) → corner < count → length (states_at tables.corners corner) ≡ length netlist.nets
  pub small : (corner net : ℕ) (edge : Edge) → corner < count → IsSmall (states_in (states_at tables.corners corner) net edge)
  pub pins : (instance pin net : ℕ) → net_on netlist instance pin ≡ Some net → net < length netlist.nets
  pub starts : ArePinStarts netlist tables.starts
  pub places : ArePlaces netlist tables.starts tables.places

-- the slews of a design: its related pins are sinks, it has no cycle, no look-up is refused, and no slew is past the limit behind a
-- wire
pub record AreSlews (source : SlewSource) (tables : SlewTables) : Type 0 where
  pub source_is : IsSource source
  pub related : All (IsSunk source.netlist source.cells) (arcs_in source)
  pub no_cycle : HasNoCycle source.netlist source.cells
  pub no_refusal : NoRefusals source (length (arcs_in source))
  pub no_limit : NoLimits source (length source.netlist.nets)
  pub states : AreNetStates source tables.corners
  pub tables_are : AreTablesOf source.netlist source.count tables
  pub beyond : tables.beyond ≡ source.beyond
  pub mode : tables.mode ≡ source.mode
  pub slew : tables.slew ≡ source.slew
