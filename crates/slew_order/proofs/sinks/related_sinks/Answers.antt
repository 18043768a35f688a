use Rattle.std.proofs.Common.{arith}
use Rattle.slew_order.proofs.Sinking.{sunk_more, sinks_more}
use Rattle.slew_order.proofs.sinks.related_sinks.Goals as goal

-- src/sinks.rt
pub loop-place-preserved : goal.loop-place-preserved
loop-place-preserved g c =
    let within = c.loop-place-test.true in record {
      sinks = sinks_more c.args.linked.now.cells c.args.linked.now.netlist c.args.arcs.now c.loop-place.place (record { instance = 0; arc = 0 }) c.loop-place.sinks.items _
          c.related_sink-sink.result (omega (arith, within)) c.loop-place.invariant.sinks c.related_sink-sink.ensures.sink c.in_ok-push.ensures.ok;
      sunk = sunk_more c.args.linked.now.cells c.args.linked.now.netlist c.args.arcs.now c.loop-place.place (record { instance = 0; arc = 0 }) (omega (arith, within))
          c.loop-place.invariant.sunk c.related_sink-sink.ensures.sunk;
    }
