-- The pairs of an arc and an edge, counted by the nets that the arcs end on.
use Rattle.std.specs.Prelude.{ℕ, ◌+◌, if◌then◌else◌, List, [], ◌∷◌}
use Rattle.slew_states.specs.declared.arcs.FlatArc.{FlatArc}
use Rattle.slew_states.specs.Arcs.{is_net}
use Rattle.slew_states.specs.Settled.{edges_of}

-- the pairs of arcs that end on the net
abbrev pub edges_into : List FlatArc → ℕ → ℕ
edges_into [] net = 0
edges_into (arc ∷ arcs) net = (if is_net arc.target net then edges_of arc else 0) + edges_into arcs net

-- the edges that the nets of a list have by arcs
abbrev pub edges_into_all : List FlatArc → List ℕ → ℕ
edges_into_all arcs [] = 0
edges_into_all arcs (net ∷ nets) = edges_into arcs net + edges_into_all arcs nets
