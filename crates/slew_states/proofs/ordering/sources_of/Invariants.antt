use Rattle.std.proofs.Common.{◌≡◌, map, take, unwrap_or}
use Rattle.slew_states.proofs.ordering.sources_of.Given as goal

abbrev pub invariant-loop-arc : goal.invariant-loop-arc
invariant-loop-arc l = l.nodes.items ≡ map (λ arc. unwrap_or arc.source l.nets) (take l.arc-index l.arcs)
