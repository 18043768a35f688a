use Rattle.std.proofs.Common.{◌+◌, ◌-◌, length, length-append, ap, ◌∙◌, arith}
use Rattle.std.proofs.lemmas.List.{get_or_read}
use Rattle.rc_tree.specs.SectionNets.{sink_node}
use Rattle.rc_tree.proofs.Judging.{sinks_more, number_below}
use Rattle.rc_tree.proofs.laying.put_sinks.Goals as goal

-- src/laying.rt
pub loop-sink-preserved : goal.loop-sink-preserved
loop-sink-preserved g c =
    let pins = g.P.PinSource.pins c.args.pins.now c.args.section.now in
    let below = number_below c.args.section.now pins c.args.numbered.now.spots.items c.args.numbered.now.count c.sink_number-number.result (sink_node pins c.loop-sink.sink) c.requires.numbered c.sink_number-number.ensures in
    let read = get_or_read c.args.found.now.numbers.items c.sink_number-number.result c.index.result.now (omega (arith, below, c.requires.every)) c.index.ensures 0 in
    record {
      size = ap length c.in_ok-push.ensures.ok ∙ length-append _ _ ∙ ap (λ n. n + 1) c.loop-sink.invariant.size;
      sinks = sinks_more c.args.section.now pins c.args.found.now.numbers.items c.loop-sink.sinks.items c.push.new.items.items c.loop-sink.sink c.sink_number-number.result _ c.loop-sink.invariant.size c.sink_number-number.ensures (c.saturating_sub-place.ensures ∙ ap (λ n. n - 1) read) c.in_ok-push.ensures.ok c.loop-sink.invariant.sinks;
    }

pub returns-clause-sinks : goal.returns-clause-sinks
returns-clause-sinks g c k below = c.loop-sink.invariant.sinks k (omega (arith, below, c.loop-sink-test.false, c.sink_count-many.ensures))
