-- Arcs between nets, by their numbers.
use Rattle.std.specs.Prelude.{◌≡◌, ℕ, ◌+◌, ◌<◌, ◌==◌, Bool, false, List, length, map, Option, Some, None, slice_index_or, unwrap_or}
use Rattle.cell_models.specs.declared.cell.ArcKind.TheVariants.{Positive}
use Rattle.cell_models.specs.declared.edge.Edge.{Edge}
use Rattle.cell_models.specs.declared.edge.Edge.TheVariants.{Rise, Fall}
use Rattle.slew_states.specs.declared.arcs.FlatArc.{FlatArc}
use Rattle.slew_states.specs.declared.arcs.Driver.{Driver}
use Rattle.slew_states.specs.declared.arcs.Driver.TheVariants.{Nothing}

-- what stands past the end of a list of arcs
abbrev pub no_arc : FlatArc
no_arc = record { source = None; target = None; kind = Positive; rise = false; fall = false }

abbrev pub arc_at : List FlatArc → ℕ → FlatArc
arc_at arcs arc = slice_index_or arcs arc no_arc

abbrev pub driver_at : List Driver → ℕ → Driver
driver_at drivers net = slice_index_or drivers net Nothing

-- the arc gives its output pin this edge
abbrev pub has_edge : FlatArc → Edge → Bool
has_edge arc Rise = arc.rise
has_edge arc Fall = arc.fall

-- the net is this one
abbrev pub is_net : Option ℕ → ℕ → Bool
is_net None net = false
is_net (Some this) net = this == net

-- the nets of the arcs are nets
abbrev pub HaveNets : ℕ → List FlatArc → Type 0
HaveNets nets arcs = (arc net : ℕ) → arc < length arcs
    → ((arc_at arcs arc).source ≡ Some net → net < nets) × ((arc_at arcs arc).target ≡ Some net → net < nets)

-- The graph of the nets has one node for each net, and two more: arcs without a related net begin at the one, and arcs without
-- an output net end at the other.
abbrev pub sources_of : ℕ → List FlatArc → List ℕ
sources_of nets arcs = map (λ arc. unwrap_or arc.source nets) arcs

abbrev pub targets_of : ℕ → List FlatArc → List ℕ
targets_of nets arcs = map (λ arc. unwrap_or arc.target (nets + 1)) arcs
