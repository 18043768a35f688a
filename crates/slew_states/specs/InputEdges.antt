-- The input edges of an arc.
use Rattle.std.specs.Prelude.{List, [], ◌∷◌}
use Rattle.cell_models.specs.declared.cell.ArcKind.{ArcKind}
use Rattle.cell_models.specs.declared.cell.ArcKind.TheVariants.{Positive, Negative, Both, RisingEdge, FallingEdge}
use Rattle.cell_models.specs.declared.edge.Edge.{Edge}
use Rattle.cell_models.specs.declared.edge.Edge.TheVariants.{Rise, Fall}

abbrev pub other_edge : Edge → Edge
other_edge Rise = Fall
other_edge Fall = Rise

-- the edges of the related pin that an edge of the output pin follows
abbrev pub input_edges : ArcKind → Edge → List Edge
input_edges Positive edge = edge ∷ []
input_edges Negative edge = other_edge edge ∷ []
input_edges Both edge = Rise ∷ Fall ∷ []
input_edges RisingEdge edge = Rise ∷ []
input_edges FallingEdge edge = Fall ∷ []
