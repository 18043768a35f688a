-- The laws of the states of nets.
use Rattle.std.specs.Prelude.{◌≡◌, ℕ, ◌+◌, ◌<◌, List, length}
use Rattle.cell_models.specs.declared.edge.Edge.{Edge}
use Rattle.slew_states.specs.declared.arcs.FlatArc.{FlatArc}
use Rattle.slew_states.specs.declared.arcs.Driver.{Driver}
use Rattle.slew_states.specs.declared.states.PinState.{PinState}
use Rattle.slew_states.specs.declared.states.PinState.TheVariants.{Absent, Known, Stuck}
use Rattle.slew_states.specs.Arcs.{HaveNets}
use Rattle.slew_states.specs.Loops.{HasNoLoop}
use Rattle.slew_states.specs.PinState.{Look, Wire, state}

-- where there is no loop the state at each depth past the number of nets is the same
abbrev pub SettledDepth : Look → Wire → List FlatArc → List Driver → ℕ → Type 0
SettledDepth look wire arcs drivers slew = HaveNets (length drivers) arcs → HasNoLoop arcs
    → (depth net : ℕ) (edge : Edge) → length drivers < depth
    → state look wire arcs drivers slew depth net edge ≡ state look wire arcs drivers slew (length drivers + 1) net edge

-- one of them is stuck, or both are known, or both are absent
abbrev pub Agree : PinState → PinState → Type 0
Agree Absent Absent = Unit {0}
Agree Absent (Known t) = ⊥
Agree Absent Stuck = Unit {0}
Agree (Known s) Absent = ⊥
Agree (Known s) (Known t) = Unit {0}
Agree (Known s) Stuck = Unit {0}
Agree Stuck b = Unit {0}

-- the states of two corners agree at each depth
abbrev pub CornersAgree : Look → Wire → Look → Wire → List FlatArc → List Driver → ℕ → Type 0
CornersAgree look wire look' wire' arcs drivers slew = (depth net : ℕ) (edge : Edge)
    → Agree (state look wire arcs drivers slew depth net edge) (state look' wire' arcs drivers slew depth net edge)
