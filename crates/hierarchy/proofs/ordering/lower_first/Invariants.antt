-- The search; a turn enters a module, passes one or finishes one.
use Rattle.hierarchy.specs.Orders.{IsSearch}
use Rattle.hierarchy.proofs.Searching.{work}
use Rattle.hierarchy.proofs.ordering.lower_first.Given as goal

abbrev pub invariant-loop-step : goal.invariant-loop-step
invariant-loop-step l = IsSearch l.lowers l.top l.marks.items l.order.items l.steps.items

abbrev pub decreases-loop-step : goal.decreases-loop-step
decreases-loop-step l = work l.lowers l.marks.items l.steps.items
