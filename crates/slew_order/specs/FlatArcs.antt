-- The arcs of the instances of a flat netlist, as arcs between its nets.
use Rattle.std.specs.Prelude.{ℕ, ◌<◌, ◌==◌, if◌then◌else◌, List, [], ◌∷◌, length, map, get_or, slice_get, slice_index_or, is_some, Option, Some, None}
use Rattle.std.specs.Option.{option_map_or}
use Rattle.cell_models.specs.NamedSets.{NamedCells, set_cells}
use Rattle.cell_models.specs.CornerCells.{arcs_at}
use Rattle.cell_models.specs.declared.cell.Arc.{Arc}
use Rattle.cell_models.specs.declared.cell.ArcKind.TheVariants.{Positive}
use Rattle.hierarchy.specs.Walks.{joined_from}
use Rattle.netlist_link.specs.FlatNetlist.{FlatNetlist, instance_at, net_at}
use Rattle.netlist_link.specs.declared.ends.End.{End}
use Rattle.netlist_link.specs.declared.ends.End.TheVariants as end
use Rattle.slew_states.specs.declared.arcs.FlatArc.{FlatArc}
use Rattle.slew_states.specs.declared.arcs.Driver.{Driver}
use Rattle.slew_states.specs.declared.arcs.Driver.TheVariants.{Nothing, Port, Pin}
use Rattle.slew_order.specs.declared.arcs.ArcAt.{ArcAt}

-- the arcs of a cell at a corner
abbrev pub arcs_of : List NamedCells → ℕ → ℕ → List Arc
arcs_of cells cell corner = option_map_or (λ models. arcs_at models corner) (slice_get (set_cells cells) cell) []

-- what stands past the end of a list of arcs
abbrev pub no_arc : Arc
no_arc = record { from = 0; to = 0; kind = Positive; rise = None; fall = None }

abbrev pub arc_of : List NamedCells → ℕ → ℕ → ℕ → Arc
arc_of cells cell corner arc = slice_index_or (arcs_of cells cell corner) arc no_arc

-- the net that a pin of an instance is on
abbrev pub net_on : FlatNetlist → ℕ → ℕ → Option ℕ
net_on netlist instance pin = get_or (instance_at netlist instance).nets pin None

-- the same, if that net has a sink
abbrev pub if_loaded : FlatNetlist → Option ℕ → Option ℕ
if_loaded netlist None = None
if_loaded netlist (Some net) = if length (net_at netlist net).sinks == 0 then None else Some net

-- an arc of an instance, from the net of its related pin to the net of its output pin, where that is loaded
abbrev pub flat_arc : FlatNetlist → ℕ → Arc → FlatArc
flat_arc netlist instance arc = record {
  source = net_on netlist instance arc.from;
  target = if_loaded netlist (net_on netlist instance arc.to);
  kind = arc.kind;
  rise = is_some arc.rise;
  fall = is_some arc.fall;
}

-- so many arcs of an instance
abbrev pub instance_arcs : ℕ → ℕ → List ArcAt
instance_arcs instance count = joined_from (λ arc. record { instance = instance; arc = arc } ∷ []) 0 count

module _ (netlist : FlatNetlist) (cells : List NamedCells) where
  -- The arcs of an instance are those of its cell. The shape of a cell is the same at each corner.
  abbrev pub arc_count : ℕ → ℕ
  arc_count instance = length (arcs_of cells (instance_at netlist instance).cell 0)

  abbrev pub cell_arc : ArcAt → ℕ → Arc
  cell_arc at corner = arc_of cells (instance_at netlist at.instance).cell corner at.arc

  -- an instance has this arc
  abbrev pub IsArcAt : ArcAt → Type 0
  IsArcAt at = (at.instance < length netlist.instances) × (at.arc < arc_count at.instance)

  -- the arcs of all instances, in order of the instances and of the arcs of their cells
  abbrev pub all_arcs : List ArcAt
  all_arcs = joined_from (λ instance. instance_arcs instance (arc_count instance)) 0 (length netlist.instances)

  abbrev pub flat_at : ArcAt → FlatArc
  flat_at at = flat_arc netlist at.instance (cell_arc at 0)

  abbrev pub flat_arcs : List FlatArc
  flat_arcs = map flat_at all_arcs

-- what drives a net
abbrev pub driver_of : Option End → Driver
driver_of None = Nothing
driver_of (Some (end.Port _)) = Port
driver_of (Some (end.Pin _ _)) = Pin

abbrev pub drivers_of : FlatNetlist → List Driver
drivers_of netlist = map (λ net. driver_of net.driver) netlist.nets
