use Rattle.std.proofs.Common.{slice_index_or, refl, sym}
use Rattle.rc_tree.specs.Values.{farads_at}
use Rattle.rc_tree.proofs.ArenaNets.{farads_read}
use Rattle.rc_tree.proofs.FillTurns.{adding_step}
use Rattle.rc_tree.proofs.filling.fill_loads.Goals as goal

-- src/filling.rt
pub loop-sink-preserved : goal.loop-sink-preserved
loop-sink-preserved g c =
    let number = g.C.CornerSet.number_of c.args.corner in
    adding_step g.C.CornerSet.COUNT number (λ s. (slice_index_or c.args.sinks.now s (record { 0 = 0 })).0) (λ s. farads_at g.C.CornerSet.COUNT (g.P.PinSource.pins c.args.pins.now c.args.section.now).loads s number)
    c.args.farads.now.values c.loop-sink.farads.values c.add_farads.new.farads.values c.loop-sink.sink _ c.sink_load-value.result.0 (g.met.C.CornerSet.number_below c.args.corner)
    (c.requires.sinks c.loop-sink.sink c.loop-sink-test.true) refl (sym (farads_read g.C.CornerSet.COUNT (g.P.PinSource.pins c.args.pins.now c.args.section.now).loads c.loop-sink.sink number c.sink_load-value.result c.sink_load-value.ensures.load)) c.sink_load-value.ensures.most
    c.add_farads.ensures c.loop-sink.invariant
