-- The largest delays of the paths of an instance, on their way.
use Rattle.std.specs.Prelude.{◌≡◌, ℕ, ◌+◌, ◌*◌, ◌<◌, ◌≤◌, ◌==◌, if◌then◌else◌, ℤ, List, [], ◌∷◌, length, Option, None}
use Rattle.std.specs.Option.{unwrap_or}
use Rattle.cell_models.specs.declared.cell.Arc.{Arc}
use Rattle.cell_models.specs.declared.edge.Edge.{Edge}
use Rattle.cell_models.specs.declared.edge.Edge.TheVariants.{Rise, Fall}
use Rattle.corner_set.specs.Places.{value_at}
use Rattle.hierarchy.specs.Walks.{joined_from}
use Rattle.slew_order.specs.LivePaths.{largest}
use Rattle.annotation_rows.specs.CellPaths.{path_of}
use Rattle.annotation_rows.specs.PathRows.{TimedDesign, arc_has, cell_arcs, arc_delay}

-- the value of a row at a corner
abbrev pub kept_at : ℕ → List (Option ℤ) → ℕ → ℕ → Option ℤ
kept_at count values row corner = unwrap_or (value_at count values row corner) None

module _ (design : TimedDesign) (instance : ℕ) (edge : Edge) where
  -- the delay of an arc, if its path has this number
  abbrev pub delay_on : ℕ → ℕ → ℕ → Option ℤ
  delay_on path corner arc = if path_of (cell_arcs design instance) arc == path then arc_delay design instance arc edge corner else None

  -- the largest of the first so many arcs
  abbrev pub best_of : ℕ → ℕ → ℕ → Option ℤ
  best_of many path corner = largest (joined_from (λ arc. delay_on path corner arc ∷ []) 0 many)

  -- at each corner each path has the largest delay of the first so many arcs
  pub record AreBests (many : ℕ) (values : List (Option ℤ)) : Type 0 where
    pub len : length values ≡ length (cell_arcs design instance) * design.source.count
    pub each : (path corner : ℕ) → path < length (cell_arcs design instance) → corner < design.source.count
        → kept_at design.source.count values path corner ≡ best_of many path corner

  -- the same with one arc more at the first so many corners
  pub record AreBestsTo (many corners : ℕ) (values : List (Option ℤ)) : Type 0 where
    pub len : length values ≡ length (cell_arcs design instance) * design.source.count
    pub done : (path corner : ℕ) → path < length (cell_arcs design instance) → corner < corners
        → kept_at design.source.count values path corner ≡ best_of (many + 1) path corner
    pub left : (path corner : ℕ) → path < length (cell_arcs design instance) → corners ≤ corner → corner < design.source.count
        → kept_at design.source.count values path corner ≡ best_of many path corner

-- how many arcs have an edge
abbrev pub arcs_with : Edge → List Arc → ℕ
arcs_with edge [] = 0
arcs_with edge (arc ∷ arcs) = (if arc_has arc edge then 1 else 0) + arcs_with edge arcs

-- the pairs of an arc of an instance and an edge that it has
abbrev pub instance_edges : TimedDesign → ℕ → ℕ
instance_edges design instance = arcs_with Rise (cell_arcs design instance) + arcs_with Fall (cell_arcs design instance)

-- at each edge and corner each path of an instance has the largest delay of its arcs
pub record AreLargest (design : TimedDesign) (instance : ℕ) (rises falls : List (Option ℤ)) : Type 0 where
  pub rises_are : AreBests design instance Rise (length (cell_arcs design instance)) rises
  pub falls_are : AreBests design instance Fall (length (cell_arcs design instance)) falls
