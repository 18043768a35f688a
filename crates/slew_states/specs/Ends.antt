-- Why the nets have no order.
use Rattle.std.specs.Prelude.{List}
use Rattle.graph_order.specs.declared.ends.OrderEnd.{OrderEnd}
use Rattle.graph_order.specs.declared.ends.OrderEnd.TheVariants.{Cycle, OutOfMemory}
use Rattle.slew_states.specs.declared.arcs.FlatArc.{FlatArc}
use Rattle.slew_states.specs.Loops.{IsLoopFromLeast}

-- an end that carries a loop carries one that begins at its least net
abbrev pub CarriesLoop : List FlatArc → OrderEnd → Type 0
CarriesLoop arcs (Cycle loop) = IsLoopFromLeast arcs loop.items
CarriesLoop arcs OutOfMemory = Unit {0}
