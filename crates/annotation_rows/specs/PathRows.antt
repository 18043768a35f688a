-- The rows of the paths through the instances of a design.
use Rattle.std.specs.Prelude.{ℕ, ◌≤◌, ◌^◌, ◌==◌, ◌||◌, Bool, if◌then◌else◌, ℤ, unsigned_abs, List, [], ◌∷◌, ◌++◌, length, get_or, Option, Some, None, is_some, ⊤}
use Rattle.cell_models.specs.NamedSets.{NamedCells, set_names}
use Rattle.cell_models.specs.declared.cell.Arc.{Arc}
use Rattle.cell_models.specs.declared.edge.Edge.{Edge}
use Rattle.cell_models.specs.declared.edge.Edge.TheVariants.{Rise, Fall}
use Rattle.delay_units.specs.declared.Femto.{Femto}
use Rattle.hierarchy.specs.Walks.{joined_from}
use Rattle.netlist_link.specs.FlatNetlist.{FlatNetlist, instance_at}
use Rattle.netlist_link.specs.Linked.{IsLinked}
use Rattle.sdf_writer.specs.SdfText.{PathRow, SdfRows}
use Rattle.slew_states.specs.Settled.{states_in}
use Rattle.slew_states.specs.declared.states.PinState.{PinState}
use Rattle.slew_order.specs.FlatArcs.{arcs_of}
use Rattle.slew_order.specs.LivePaths.{delay_at, path_delay}
use Rattle.slew_order.specs.NetStates.{states_at}
use Rattle.net_delays.specs.NetTimes.{NetTimes, Fits}
use Rattle.slew_order.specs.Slews.{SlewTables, AreTablesOf}
use Rattle.slew_order.specs.Timings.{SlewSource, source_of}
pub use Rattle.slew_order.specs.Timings.{arc_has}
use Rattle.annotation_rows.specs.CellPaths.{arc_in, path_of}
use Rattle.annotation_rows.specs.SdfEnds.{pin_sdf}
use Rattle.annotation_rows.specs.WireRows.{at_corners}

-- a design with its slews: what they come from, and the states of its nets
pub record TimedDesign : Type 0 where
  pub source : SlewSource
  pub tables : SlewTables

abbrev pub timed_of : FlatNetlist → List NamedCells → ℕ → NetTimes → SlewTables → TimedDesign
timed_of netlist cells count times tables = record {
  source = source_of netlist cells count times tables.beyond tables.mode tables.slew;
  tables = tables;
}

-- its netlist is linked with its cells, and the loads, Elmore sums and states are of its nets
pub record IsTimed (design : TimedDesign) : Type 0 where
  pub linked : IsLinked design.source.cells design.source.netlist
  pub fits : Fits design.source.netlist design.source.times
  pub tables_are : AreTablesOf design.source.netlist design.source.count design.tables

-- the times of all corners; none where one is missing
abbrev pub with_time : ℤ → Option (List Femto) → Option (List Femto)
with_time value None = None
with_time value (Some times) = Some (record { 0 = value } ∷ times)

abbrev pub all_times : List (Option ℤ) → Option (List Femto)
all_times [] = Some []
all_times (None ∷ values) = None
all_times (Some value ∷ values) = with_time value (all_times values)

-- a time that may be missing, of a size that is printed
abbrev pub IsPrinted : Option ℤ → Type 0
IsPrinted None = ⊤
IsPrinted (Some value) = unsigned_abs value ≤ 10 ^ 27

-- the row of a path with a delay at an edge
abbrev pub if_delayed : PathRow → List PathRow
if_delayed row = if is_some row.rise || is_some row.fall then row ∷ [] else []

module _ (design : TimedDesign) where
  abbrev pub states_of : ℕ → ℕ → Edge → PinState
  states_of corner = states_in (states_at design.tables.corners corner)

  -- the arcs of the cell of an instance
  abbrev pub cell_arcs : ℕ → List Arc
  cell_arcs instance = arcs_of design.source.cells (instance_at design.source.netlist instance).cell 0

  -- the name of that cell
  abbrev pub cell_name : ℕ → List ℕ
  cell_name instance = get_or (set_names design.source.cells) (instance_at design.source.netlist instance).cell []

  -- the delay of an arc of an instance at an edge and a corner, in femtoseconds, if it has a worst input slew there
  abbrev pub arc_delay : ℕ → ℕ → Edge → ℕ → Option ℤ
  arc_delay instance arc edge corner =
      delay_at design.source corner (states_of corner) (record { instance = instance; arc = arc }) edge

  -- the delay of the path of an arc: the largest of those of the arcs between the same pins
  abbrev pub delay_of_path : ℕ → ℕ → Edge → ℕ → Option ℤ
  delay_of_path instance arc edge corner = path_delay design.source corner (states_of corner) instance
      (arc_in (cell_arcs instance) arc).from (arc_in (cell_arcs instance) arc).to edge

  abbrev pub edge_delays : ℕ → ℕ → Edge → Option (List Femto)
  edge_delays instance arc edge = all_times (at_corners (delay_of_path instance arc edge) design.source.count)

  -- the row of the path of an arc of an instance
  abbrev pub path_row : ℕ → ℕ → PathRow
  path_row instance arc = record {
    cell = cell_name instance;
    instance = (instance_at design.source.netlist instance).sdf;
    from = pin_sdf design.source.cells design.source.netlist instance (arc_in (cell_arcs instance) arc).from;
    to = pin_sdf design.source.cells design.source.netlist instance (arc_in (cell_arcs instance) arc).to;
    rise = edge_delays instance arc Rise;
    fall = edge_delays instance arc Fall;
  }

  -- the row of the path that begins with an arc, if one does, and if a transition takes the path
  abbrev pub rows_at : ℕ → ℕ → List PathRow
  rows_at instance arc = if path_of (cell_arcs instance) arc == arc then if_delayed (path_row instance arc) else []

  -- the paths of an instance, in order of their first arcs
  abbrev pub instance_rows_to : ℕ → ℕ → List PathRow
  instance_rows_to instance many = joined_from (rows_at instance) 0 many

  abbrev pub instance_rows : ℕ → List PathRow
  instance_rows instance = instance_rows_to instance (length (cell_arcs instance))

  abbrev pub path_rows_to : ℕ → List PathRow
  path_rows_to many = joined_from instance_rows 0 many

  -- the paths of all instances, in order
  abbrev pub path_rows : List PathRow
  path_rows = path_rows_to (length design.source.netlist.instances)

-- rows with more paths behind
abbrev pub with_paths : SdfRows → List PathRow → SdfRows
with_paths rows more = record { design = rows.design; wires = rows.wires; paths = rows.paths ++ more }
