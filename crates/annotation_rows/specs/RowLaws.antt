-- The laws of the rows of paths.
use Rattle.std.specs.Prelude.{◌≡◌, ◌↔◌, ℕ, ◌<◌, pos, List, [], ◌∷◌, length, get_or, Some, None}
use Rattle.cell_models.specs.declared.edge.Edge.{Edge}
use Rattle.delay_units.specs.declared.Femto.{Femto}
use Rattle.slew_order.specs.FlatArcs.{IsArcAt}
use Rattle.slew_order.specs.LivePaths.{IsLivePath}
pub use Rattle.slew_order.specs.Shapes.{AreShaped}
use Rattle.slew_order.specs.Slews.{AreSlews}
use Rattle.slew_order.specs.declared.arcs.ArcAt.{ArcAt}
use Rattle.annotation_rows.specs.CellPaths.{arc_in, path_of}
use Rattle.annotation_rows.specs.PathRows.{TimedDesign, cell_arcs, delay_of_path, edge_delays, path_row, rows_at, states_of}

-- a design that has slews, and whose cells have one shape at all corners
pub record IsSlewed (design : TimedDesign) : Type 0 where
  pub slews : AreSlews design.source design.tables
  pub shaped : AreShaped design.source.count design.source.cells

abbrev pub arc_place : ℕ → ℕ → ArcAt
arc_place instance arc = record { instance = instance; arc = arc }

-- an instance has this arc, and a path begins with it
pub record IsFirstArc (design : TimedDesign) (instance arc : ℕ) : Type 0 where
  pub there : IsArcAt design.source.netlist design.source.cells (arc_place instance arc)
  pub first : path_of (cell_arcs design instance) arc ≡ arc

-- the path of an arc is live at a corner
abbrev pub IsLiveAt : TimedDesign → ℕ → ℕ → ℕ → Type 0
IsLiveAt design instance arc corner = IsLivePath design.source corner (states_of design corner) instance
    (arc_in (cell_arcs design instance) arc).from (arc_in (cell_arcs design instance) arc).to

-- a path has its row just where it is live, at any corner
abbrev pub LiveRows : Type 0
LiveRows = (design : TimedDesign) → IsSlewed design → (instance arc corner : ℕ) → IsFirstArc design instance arc
    → corner < design.source.count
    → IsLiveAt design instance arc corner ↔ (rows_at design instance arc ≡ path_row design instance arc ∷ [])

-- where its row has values at an edge, they are the delays of the path at the corners
abbrev pub ValuesAreDelays : Type 0
ValuesAreDelays = (design : TimedDesign) (instance arc corner : ℕ) (edge : Edge) (values : List Femto)
    → edge_delays design instance arc edge ≡ Some values → corner < design.source.count
    → delay_of_path design instance arc edge corner ≡ Some (get_or values corner (record { 0 = pos 0 })).0

-- where it has none, the path has no delay there at any corner
abbrev pub NoValueNoDelay : Type 0
NoValueNoDelay = (design : TimedDesign) → IsSlewed design → (instance arc corner : ℕ) (edge : Edge)
    → instance < length design.source.netlist.instances → edge_delays design instance arc edge ≡ None → corner < design.source.count
    → delay_of_path design instance arc edge corner ≡ None
