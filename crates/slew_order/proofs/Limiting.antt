-- A slew that is past the limit behind a wire is itself within it.
use Rattle.std.proofs.Common.{ℕ, ◌<◌, ◌≤◌, ◌∙◌, subst, List, length, arith}
use Rattle.cell_models.specs.declared.edge.Edge.{Edge}
use Rattle.slew_states.specs.PinState.{IsSmall, most}
use Rattle.slew_states.specs.declared.states.EdgeStates.{EdgeStates}
use Rattle.slew_order.specs.NetStates.{AreNetStates, drivers_in}
use Rattle.slew_order.specs.SlewEnds.{IsLimit}
use Rattle.slew_order.specs.Timings.{SlewSource}
use Rattle.slew_order.proofs.Settling.{many_drivers}

pub limit_small : (source : SlewSource) (corners : List (List EdgeStates)) (net sink : ℕ) (edge : Edge) (corner before : ℕ) → AreNetStates source corners
    → IsLimit source net sink edge corner before → before ≤ most
limit_small source corners net sink edge corner before are is =
    let at = are.each corner is.at_corner in
    let many = many_drivers source.netlist in
    let within = is.within in
    let driven : net < length (drivers_in source) = omega (arith, many, within) in
    subst IsSmall (at.settled.values net edge driven ∙ is.known) (at.small net edge)
