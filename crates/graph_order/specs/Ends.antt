-- Why a graph has no order.
use Rattle.std.specs.Prelude.{List, ℕ}
use Rattle.graph_order.specs.Orders.{IsCycleFromLeast}
use Rattle.graph_order.specs.declared.ends.OrderEnd.{OrderEnd}
use Rattle.graph_order.specs.declared.ends.OrderEnd.TheVariants.{Cycle, OutOfMemory}

-- an end that carries a cycle carries one that begins at its least node
abbrev pub CarriesCycle : List ℕ → List ℕ → OrderEnd → Type 0
CarriesCycle sources targets (Cycle cycle) = IsCycleFromLeast sources targets cycle.items
CarriesCycle sources targets OutOfMemory = Unit {0}
