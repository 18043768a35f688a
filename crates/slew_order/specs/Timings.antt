-- What the arcs of a design and the wires to their related pins make of a slew, at a corner.
use Rattle.std.specs.Prelude.{ℕ, Bool, List, slice_index_or, unsigned_abs, ℤ, Option, Some, None, is_some, Result, Ok, Err}
use Rattle.cell_models.specs.NamedSets.{NamedCells}
use Rattle.cell_models.specs.declared.cell.Arc.{Arc}
use Rattle.cell_models.specs.declared.cell.EdgeTables.{EdgeTables}
use Rattle.cell_models.specs.declared.edge.Edge.{Edge}
use Rattle.cell_models.specs.declared.edge.Edge.TheVariants.{Rise, Fall}
use Rattle.cell_models.specs.declared.edge.Part.TheVariants.{Delay, Transition}
use Rattle.netlist_link.specs.FlatNetlist.{FlatNetlist}
use Rattle.corner_set.specs.declared.choices.Beyond.{Beyond}
use Rattle.nldm_lookup.specs.declared.grain.Grain.TheVariants.{Atto, Femto}
use Rattle.nldm_lookup.specs.declared.faults.LookupEnd.{LookupEnd}
use Rattle.slew_states.specs.PinState.{Look, Wire}
use Rattle.slew_states.specs.declared.arcs.FlatArc.{FlatArc}
use Rattle.corner_set.specs.declared.choices.WireSlew.{WireSlew}
use Rattle.slew_order.specs.declared.arcs.ArcAt.{ArcAt}
use Rattle.slew_order.specs.declared.lookups.EdgeLookups.{EdgeLookups}
use Rattle.slew_order.specs.declared.lookups.PartEnd.{PartEnd}
use Rattle.slew_order.specs.FlatArcs.{all_arcs, cell_arc, flat_at, flat_arcs}
use Rattle.slew_order.specs.Lookups.{lookup_of}
use Rattle.net_delays.specs.NetTimes.{NetTimes, load_at, elmore_at}
use Rattle.slew_order.specs.Sinks.{related_sink}
use Rattle.slew_order.specs.WireBehind.{wire_of}

-- What the slews of a design come from: its netlist and its cells, the loads and Elmore sums at so many corners, what a look-up does
-- past an axis, what a wire does to a slew, and the slew of its input ports.
pub record SlewSource : Type 0 where
  pub netlist : FlatNetlist
  pub cells : List NamedCells
  pub count : ℕ
  pub times : NetTimes
  pub beyond : Beyond
  pub mode : WireSlew
  pub slew : ℕ

abbrev pub source_of : FlatNetlist → List NamedCells → ℕ → NetTimes → Beyond → WireSlew → ℕ → SlewSource
source_of netlist cells count times beyond mode slew =
    record { netlist = netlist; cells = cells; count = count; times = times; beyond = beyond; mode = mode; slew = slew }

-- the tables of an edge of an arc, if it has that
abbrev pub tables_of : Arc → Edge → Option EdgeTables
tables_of arc Rise = arc.rise
tables_of arc Fall = arc.fall

-- an arc gives its output pin an edge
abbrev pub arc_has : Arc → Edge → Bool
arc_has arc Rise = is_some arc.rise
arc_has arc Fall = is_some arc.fall

-- both look-ups at a slew and a load: the delay in femtoseconds, the transition in attoseconds
abbrev pub lookups_of : Beyond → EdgeTables → ℕ → ℕ → EdgeLookups
lookups_of beyond tables slew load = record {
  delay = lookup_of tables.delay slew load Femto beyond;
  transition = lookup_of tables.slew slew load Atto beyond;
}

abbrev pub lookups_with : Beyond → Option EdgeTables → Option ℕ → ℕ → Option EdgeLookups
lookups_with beyond None load slew = None
lookups_with beyond (Some tables) None slew = None
lookups_with beyond (Some tables) (Some load) slew = Some (lookups_of beyond tables slew load)

-- the transition where both have a value; no transition is below 0
abbrev pub if_both : Result ℤ LookupEnd → Result ℤ LookupEnd → Option ℕ
if_both (Ok delay) (Ok transition) = Some (unsigned_abs transition)
if_both (Ok delay) (Err end) = None
if_both (Err end) transition = None

abbrev pub made_of : Option EdgeLookups → Option ℕ
made_of None = None
made_of (Some looked) = if_both looked.delay looked.transition

-- the first of both that is refused, the delay first, and why
abbrev pub first_end : Result ℤ LookupEnd → Result ℤ LookupEnd → Option PartEnd
first_end (Ok delay) (Ok transition) = None
first_end (Ok delay) (Err end) = Some (record { part = Transition; end = end })
first_end (Err end) transition = Some (record { part = Delay; end = end })

abbrev pub refused_of : Option EdgeLookups → Option PartEnd
refused_of None = None
refused_of (Some looked) = first_end looked.delay looked.transition

-- what stands past the end of a list of arcs of instances
abbrev pub no_arc_at : ArcAt
no_arc_at = record { instance = 0; arc = 0 }

module _ (source : SlewSource) where
  -- the arcs of all instances, as arcs of instances and as arcs between nets
  abbrev pub arcs_in : List ArcAt
  arcs_in = all_arcs source.netlist source.cells

  abbrev pub flat_in : List FlatArc
  flat_in = flat_arcs source.netlist source.cells

  -- the arc of a number
  abbrev pub arc_number : ℕ → ArcAt
  arc_number arc = slice_index_or arcs_in arc no_arc_at

  module _ (corner : ℕ) where
    abbrev pub load_on : Option ℕ → Option ℕ
    load_on None = None
    load_on (Some net) = Some (load_at source.count source.times net corner)

    -- The look-ups of an edge of an arc for a slew of its related pin, at the load of the net of its output pin. There are none where the
    -- arc has not the edge or its output pin is not loaded.
    abbrev pub lookups_at : ArcAt → Edge → ℕ → Option EdgeLookups
    lookups_at at edge slew = lookups_with source.beyond (tables_of (cell_arc source.netlist source.cells at corner) edge)
        (load_on (flat_at source.netlist source.cells at).target) slew

    -- the transition at an edge of an arc's output for a slew of its related pin
    abbrev pub look_at : Look
    look_at arc edge slew = made_of (lookups_at (arc_number arc) edge slew)

    -- the slew of a sink of a net for a slew of the net's driver
    abbrev pub behind_wire : ℕ → ℕ → ℕ → Option ℕ
    behind_wire net sink slew = wire_of source.mode (elmore_at source.count source.times net sink corner) slew

    abbrev pub wire_to : ArcAt → Option ℕ → ℕ → Option ℕ
    wire_to at None slew = None
    wire_to at (Some net) slew = behind_wire net (related_sink source.netlist source.cells at) slew

    -- the slew of the related pin of an arc for a slew of the driver of its net
    abbrev pub wire_at : Wire
    wire_at arc slew = wire_to (arc_number arc) (flat_at source.netlist source.cells (arc_number arc)).source slew
