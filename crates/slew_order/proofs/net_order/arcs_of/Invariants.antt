use Rattle.std.proofs.Common.{◌≡◌, map, take, slice_index_or}
use Rattle.slew_order.specs.Timings.{no_arc_at}
use Rattle.slew_order.proofs.net_order.arcs_of.Given as goal

abbrev pub invariant-loop-place : goal.invariant-loop-place
invariant-loop-place l = l.list.items ≡ map (λ arc. slice_index_or l.arcs arc no_arc_at) (take l.place l.numbers)
