use Rattle.std.proofs.Common.{◌≡◌, ◌+◌, map, take, unwrap_or}
use Rattle.slew_states.proofs.ordering.targets_of.Given as goal

abbrev pub invariant-loop-arc : goal.invariant-loop-arc
invariant-loop-arc l = l.nodes.items ≡ map (λ arc. unwrap_or arc.target (l.nets + 1)) (take l.arc-index l.arcs)
