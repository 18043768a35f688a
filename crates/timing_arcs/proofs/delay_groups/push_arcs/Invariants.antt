-- The arcs from the places so far.
use Rattle.std.proofs.Common.{take}
use Rattle.timing_arcs.specs.LibraryBasis.{AddsArcs}
use Rattle.timing_arcs.proofs.delay_groups.push_arcs.Given as goal

abbrev pub invariant-loop-from : goal.invariant-loop-from
invariant-loop-from l = AddsArcs l.timing.kind l.timing.rise l.timing.fall (take l.from-index l.places) l.to l.initial.arcs.items l.arcs.items
