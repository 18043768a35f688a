use Rattle.std.proofs.Common.{length, count_by, not, is_some}
use Rattle.graph_order.proofs.Trails.{IsTrail}
use Rattle.graph_order.proofs.cycles.back_cycle.Given as goal

abbrev pub invariant-loop-place : goal.invariant-loop-place
invariant-loop-place l = IsTrail (length l.waits) l.sources l.targets l.waits l.places.items l.trail.items l.link

abbrev pub decreases-loop-place : goal.decreases-loop-place
decreases-loop-place l = count_by (λ place. not (is_some place)) l.places.items
