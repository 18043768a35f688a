-- Cycles of arcs of instances.
use Rattle.std.specs.Prelude.{◌≡◌, ℕ, ◌<◌, ◌≤◌, List, [], ◌∷◌, length, Option, Some, All}
use Rattle.cell_models.specs.NamedSets.{NamedCells}
use Rattle.netlist_link.specs.FlatNetlist.{FlatNetlist}
use Rattle.slew_order.specs.declared.arcs.ArcAt.{ArcAt}
use Rattle.slew_order.specs.FlatArcs.{IsArcAt, cell_arc, net_on}

module _ (netlist : FlatNetlist) (cells : List NamedCells) where
  -- the net that the related pin of an arc is on, and the one that its output pin is on
  abbrev pub related_net : ArcAt → Option ℕ
  related_net at = net_on netlist at.instance (cell_arc netlist cells at 0).from

  abbrev pub output_net : ArcAt → Option ℕ
  output_net at = net_on netlist at.instance (cell_arc netlist cells at 0).to

  -- The arcs lead from one net to another: the related pin of the first is on the one net, each ends on the net that the related pin
  -- of the next is on, and the last ends on the other net.
  abbrev pub ArcsJoin : ℕ → List ArcAt → ℕ → Type 0
  ArcsJoin a [] b = a ≡ b
  ArcsJoin a (at ∷ walk) b = IsArcAt netlist cells at × (related_net at ≡ Some a)
      × ((net : ℕ) × (output_net at ≡ Some net) × ArcsJoin net walk b)

  -- at least one arc, and they lead from the net back to it
  abbrev pub IsCycle : ℕ → List ArcAt → Type 0
  IsCycle net cycle = (0 < length cycle) × ArcsJoin net cycle net

  -- a cycle that begins at its least net
  abbrev pub IsCycleFromLeast : List ArcAt → Type 0
  IsCycleFromLeast cycle = (net : ℕ) × IsCycle net cycle × All (λ at. (other : ℕ) → related_net at ≡ Some other → net ≤ other) cycle

  abbrev pub HasNoCycle : Type 0
  HasNoCycle = (net : ℕ) (cycle : List ArcAt) → IsCycle net cycle → ⊥
