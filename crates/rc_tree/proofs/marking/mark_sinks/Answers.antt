use Rattle.std.proofs.lemmas.Option.{slice_get-get_or}
use Rattle.std.proofs.Common.{◌<◌, length, slice_get, subst, sym, ap, ◌∙◌, arith}
use Rattle.rc_tree.specs.ListedPins.{no_name, conn_name, listed_pins}
use Rattle.rc_tree.proofs.ListedLemmas.{place_within, sink_is, within_more}
use Rattle.rc_tree.proofs.MarkingLemmas.{marks_size, marked_more, marked_end}
use Rattle.rc_tree.proofs.marking.mark_sinks.Goals as goal

-- src/marking.rt
pub conn-node-requires : goal.conn-node-requires
conn-node-requires g c =
    subst (λ k. k < length c.args.section.now.conns) (sym c.place.ensures)
    (place_within g.C.CornerSet.COUNT c.args.section.now c.args.pins.now.driver c.loop-sink.sink (omega (arith, c.loop-sink-test.true, c.len-sink-end.ensures)))

pub loop-sink-preserved : goal.loop-sink-preserved
loop-sink-preserved g c = record {
  size = marks_size _ _ _ _ _ _ c.in_ok-mark.ensures ∙ c.loop-sink.invariant.size;
  within = within_more c.args.section.now c.args.pins.now.driver c.loop-sink.sink c.conn-node.result (ap (slice_get c.args.section.now.conns) (sym c.place.ensures) ∙ c.conn-node.ensures.conn) c.conn-node.ensures.node c.loop-sink.invariant.within;
  marked = λ nodes start.
      marked_more 4294967295 c.args.section.now.nodes nodes (listed_pins g.C.CornerSet.COUNT c.args.section.now c.args.pins.now.driver).sinks c.loop-sink.sink c.conn-node.result.node (conn_name c.args.section.now c.conn-node.result)
      c.loop-sink.numbered.spots.items c.mark.new.numbered.spots.items c.loop-sink.numbered.count c.mark.new.numbered.count c.requires.distinct
      (sink_is g.C.CornerSet.COUNT c.args.section.now c.args.pins.now.driver c.loop-sink.sink c.conn-node.result (omega (arith, c.loop-sink-test.true, c.len-sink-end.ensures)) (ap (slice_get c.args.section.now.conns) (sym c.place.ensures) ∙ c.conn-node.ensures.conn))
      (slice_get-get_or c.args.section.now.nodes c.conn-node.result.node no_name c.conn-node.ensures.node) c.in_ok-mark.ensures (c.loop-sink.invariant.marked nodes start);
}

pub returns-clause-within : goal.returns-clause-within
returns-clause-within g c k below = c.loop-sink.invariant.within k (omega (arith, below, c.loop-sink-test.false, c.len-sink-end.ensures))

pub returns-clause-marked : goal.returns-clause-marked
returns-clause-marked g c nodes start =
    marked_end 4294967295 c.args.section.now.nodes nodes (listed_pins g.C.CornerSet.COUNT c.args.section.now c.args.pins.now.driver).sinks c.loop-sink.sink c.loop-sink.numbered.spots.items c.loop-sink.numbered.count
    (omega (arith, c.loop-sink-test.false, c.len-sink-end.ensures)) (c.loop-sink.invariant.marked nodes start)
