use Rattle.std.proofs.Common.{slice_index_or}
use Rattle.rc_tree.specs.Values.{farads_at}
use Rattle.rc_tree.proofs.FillTurns.{Adding}
use Rattle.rc_tree.proofs.filling.fill_loads.Given as goal

abbrev pub invariant-loop-sink : goal.invariant-loop-sink
invariant-loop-sink g l =
    Adding g.C.CornerSet.COUNT (g.C.CornerSet.number_of l.corner) (λ s. (slice_index_or l.sinks s (record { 0 = 0 })).0) (λ s. farads_at g.C.CornerSet.COUNT (g.P.PinSource.pins l.pins l.section).loads s (g.C.CornerSet.number_of l.corner)) l.fn.farads.values l.farads.values l.sink
