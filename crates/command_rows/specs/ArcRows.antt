-- The rows of a cell's arcs at one slew of their inputs and one load of their outputs, by the way that is chosen to go past the ends of
-- an axis.
use Rattle.std.specs.Prelude.{◌≡◌, ℕ, ℤ, List, [], ◌∷◌, ◌++◌, flat_map, slice_get, Option, Some, None, Result, Ok, Err, All}
use Rattle.std.specs.List.{AllZip}
use Rattle.nldm_lookup.specs.Interpolant.{IsInterpolant, IsLookupEnd}
use Rattle.nldm_lookup.specs.Tables.{TimingTable}
use Rattle.corner_set.specs.declared.choices.Beyond.{Beyond}
use Rattle.nldm_lookup.specs.declared.faults.LookupEnd.{LookupEnd}
use Rattle.nldm_lookup.specs.declared.grain.Grain.{Grain}
use Rattle.nldm_lookup.specs.declared.grain.Grain.TheVariants.{Atto, Femto}
use Rattle.cell_models.specs.Cells.{TimedCell}
use Rattle.cell_models.specs.declared.cell.Arc.{Arc}
use Rattle.cell_models.specs.declared.cell.EdgeTables.{EdgeTables}
use Rattle.cell_models.specs.declared.cell.Pin.{Pin}
use Rattle.command_rows.specs.declared.arc_rows.ArcRow.{ArcRow}
use Rattle.cell_models.specs.declared.edge.Edge.{Edge}
use Rattle.cell_models.specs.declared.edge.Edge.TheVariants.{Rise, Fall}
use Rattle.cell_models.specs.declared.edge.Part.{Part}
use Rattle.cell_models.specs.declared.edge.Part.TheVariants.{Delay, Transition}
use Rattle.refusals.specs.LookUps.{look_up_refusal}
use Rattle.refusals.specs.declared.look_ups.ArcNames.{ArcNames}
use Rattle.refusals.specs.declared.refusal.Refusal.{Refusal}

-- an edge that an arc has, with its tables
pub record ArcEdge : Type 0 where
  pub arc : Arc
  pub edge : Edge
  pub tables : EdgeTables

abbrev pub edge_of : Arc → Edge → Option EdgeTables → List ArcEdge
edge_of arc edge None = []
edge_of arc edge (Some tables) = record { arc = arc; edge = edge; tables = tables } ∷ []

-- the rise of an arc, and then its fall
abbrev pub edges_of : Arc → List ArcEdge
edges_of arc = edge_of arc Rise arc.rise ++ edge_of arc Fall arc.fall

-- the edges of all arcs, in order
abbrev pub arc_edges : List Arc → List ArcEdge
arc_edges arcs = flat_map edges_of arcs

-- the name of the pin at a place
pub record IsNamed (pins : List Pin) (place : ℕ) (name : List ℕ) : Type 0 where
  pub pin : Pin
  pub here : slice_get pins place ≡ Some pin
  pub named : name ≡ pin.name

-- the row of an edge: its pins, and the interpolants of its tables, each rounded once, the delay to a femtosecond and the transition to an
-- attosecond
pub record IsArcRow (pins : List Pin) (slew load : ℕ) (beyond : Beyond) (at : ArcEdge) (row : ArcRow) : Type 0 where
  pub from : IsNamed pins at.arc.from row.from
  pub to : IsNamed pins at.arc.to row.to
  pub edge : row.edge ≡ at.edge
  pub delay : IsInterpolant at.tables.delay slew load Femto beyond row.delay
  pub transition : IsInterpolant at.tables.slew slew load Atto beyond row.slew.0

-- a table has a value at a slew and a load
abbrev pub HasValue : TimingTable → ℕ → ℕ → Grain → Beyond → Type 0
HasValue table slew load grain beyond = (value : ℤ) × IsInterpolant table slew load grain beyond value

-- both tables of an edge have one
pub record HasValues (slew load : ℕ) (beyond : Beyond) (tables : EdgeTables) : Type 0 where
  pub delay : HasValue tables.delay slew load Femto beyond
  pub transition : HasValue tables.slew slew load Atto beyond

-- the first table of an edge that has none, the delay before the transition, and why
pub data IsEdgeEnd (slew load : ℕ) (beyond : Beyond) (tables : EdgeTables) : Part → LookupEnd → Type 0 where
  at_delay : {end : LookupEnd} → IsLookupEnd tables.delay slew load Femto beyond end → IsEdgeEnd slew load beyond tables Delay end
  at_transition : {end : LookupEnd} → HasValue tables.delay slew load Femto beyond → IsLookupEnd tables.slew slew load Atto beyond end
      → IsEdgeEnd slew load beyond tables Transition end

-- the refusal of an edge whose table has no value at a corner, with the name of its cell and those of its pins
pub record IsEdgeRefusal (corner : ℕ) (cell : List ℕ) (pins : List Pin) (arc : Arc) (edge : Edge) (part : Part) (end : LookupEnd)
    (refusal : Refusal) : Type 0 where
  pub names : ArcNames
  pub instance : names.instance ≡ cell
  pub from : IsNamed pins arc.from names.from
  pub to : IsNamed pins arc.to names.to
  pub is : refusal ≡ look_up_refusal names edge corner part end

-- the first of some edges with a table that has no value at a corner is refused
pub record IsFirstRefused (corner : ℕ) (cell : List ℕ) (pins : List Pin) (slew load : ℕ) (beyond : Beyond) (edges : List ArcEdge)
    (refusal : Refusal) : Type 0 where
  pub before : List ArcEdge
  pub here : ArcEdge
  pub behind : List ArcEdge
  pub split : edges ≡ before ++ here ∷ behind
  pub valued : All (λ earlier. HasValues slew load beyond earlier.tables) before
  pub part : Part
  pub end : LookupEnd
  pub is_end : IsEdgeEnd slew load beyond here.tables part end
  pub refused : IsEdgeRefusal corner cell pins here.arc here.edge part end refusal

-- the rows of these edges stand behind those before
pub record AddsEdges (pins : List Pin) (slew load : ℕ) (beyond : Beyond) (edges : List ArcEdge) (before after : List ArcRow) : Type 0 where
  pub added : List ArcRow
  pub is : after ≡ before ++ added
  pub each : AllZip (IsArcRow pins slew load beyond) edges added
  pub valued : All (λ edge. HasValues slew load beyond edge.tables) edges

-- a cell of a name at a corner gives a row for each edge of its arcs, or is refused for the first with a table that has no value
pub data CellGives (corner : ℕ) (name : List ℕ) (cell : TimedCell) (slew load : ℕ) (beyond : Beyond)
    : Result (List ArcRow) Refusal → Type 0 where
  all_valued : (rows : List ArcRow) → AddsEdges cell.pins slew load beyond (arc_edges cell.arcs) [] rows
      → CellGives corner name cell slew load beyond (Ok rows)
  some_refused : (refusal : Refusal) → IsFirstRefused corner name cell.pins slew load beyond (arc_edges cell.arcs) refusal
      → CellGives corner name cell slew load beyond (Err refusal)
