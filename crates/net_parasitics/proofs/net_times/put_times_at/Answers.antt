use Rattle.std.proofs.Common.{◌≡◌, ◌<◌, length, sym, ap, subst, ◌∙◌, arith}
use Rattle.std.proofs.lemmas.Option.{get_or_from_slice_get}
use Rattle.rc_tree.specs.Arenas.{node_count, arena_elements}
use Rattle.rc_tree.specs.Elmore.{IsElmore}
use Rattle.rc_tree.specs.declared.node_ids.NodeId.{NodeId}
use Rattle.net_delays.specs.NetTimes.{elmore_limit}
use Rattle.net_delays.proofs.Starts.{row_within}
use Rattle.net_parasitics.specs.NetSteps.{node_of_sink}
use Rattle.net_parasitics.proofs.NetPuts.{has_sink, after_load, none_put, one_put, sum_is, HaveCorners}
use Rattle.net_parasitics.proofs.net_times.put_times_at.Goals as goal

-- src/net_times.rt
pub loop-sink-init : goal.loop-sink-init
loop-sink-init g c =
    let number = g.C.CornerSet.number_of in
    let there : HaveCorners g.row.C-Index.Denot number g.C.CornerSet.COUNT = λ n below. (let law = g.met.C.CornerSet.number_of_corner n below in (law.0, law.2)) in (
      none_put g.C.CornerSet.COUNT c.args.tree.now c.args.delays.now c.set_load.new.self c.args.net (number c.args.corner) (c.set_load.ensures.held ∙ c.load.ensures.sum)
          (after_load g.row.C-Index.Denot number g.C.CornerSet.COUNT there c.args.delays.now c.set_load.new.self c.args.net c.args.corner c.set_load.ensures.starts c.set_load.ensures.elmores c.set_load.ensures.others),
      omega arith,
    )

pub value-sum-requires : goal.value-sum-requires
value-sum-requires g c = row_within g.C.CornerSet.COUNT c.sink.result.0 (node_count c.args.tree.now) (length c.args.sums.now) c.sink.ensures.within c.requires.room

pub set_elmore-requires-clause-sink : goal.set_elmore-requires-clause-sink
set_elmore-requires-clause-sink g c =
    has_sink c.loop-sink.delays c.args.delays.now c.args.net c.loop-sink.sink c.loop-sink.invariant.0.kept.starts
    (c.requires.sinks c.loop-sink.sink (omega (arith, c.loop-sink-test.true, c.sink_count-sink-end.ensures)))

pub set_elmore-requires-clause-small : goal.set_elmore-requires-clause-small
set_elmore-requires-clause-small g c =
    let number = g.C.CornerSet.number_of c.args.corner in
    let delay = c.requires.sums c.sink.result.0 c.sink.ensures.within in
    subst (λ v. v < elmore_limit) (sum_is g.C.CornerSet.COUNT c.args.tree.now c.args.sums.now c.sink.result.0 number c.value-sum.result delay c.value-sum.ensures.value) delay.small

pub loop-sink-preserved : goal.loop-sink-preserved
loop-sink-preserved g c =
    let number = g.C.CornerSet.number_of in
    let there : HaveCorners g.row.C-Index.Denot number g.C.CornerSet.COUNT = λ n below. (let law = g.met.C.CornerSet.number_of_corner n below in (law.0, law.2)) in
    let delay = c.requires.sums c.sink.result.0 c.sink.ensures.within in
    let node : node_of_sink c.args.tree.now c.loop-sink.sink ≡ c.sink.result.0 =
    ap (λ (n : NodeId). n.0) (get_or_from_slice_get c.args.tree.now.sinks c.loop-sink.sink c.sink.result (record { 0 = 0 }) c.sink.ensures.sink) in
    let elements = arena_elements g.C.CornerSet.COUNT c.args.tree.now (number c.args.corner) in
    let is : IsElmore elements (node_of_sink c.args.tree.now c.loop-sink.sink) c.value-sum.result =
    subst (λ n. IsElmore elements n c.value-sum.result) (sym node)
    (subst (IsElmore elements c.sink.result.0) (sum_is g.C.CornerSet.COUNT c.args.tree.now c.args.sums.now c.sink.result.0 (number c.args.corner) c.value-sum.result delay c.value-sum.ensures.value) delay.elmore) in (
      one_put g.row.C-Index.Denot number g.C.CornerSet.COUNT there c.args.tree.now c.args.delays.now c.loop-sink.delays c.set_elmore.new.self c.args.net c.loop-sink.sink c.value-sum.result c.args.corner
          c.set_elmore.ensures.starts c.set_elmore.ensures.loads c.set_elmore.ensures.others c.set_elmore.ensures.held is
          (λ other less. has_sink c.loop-sink.delays c.args.delays.now c.args.net other c.loop-sink.invariant.0.kept.starts (c.requires.sinks other (omega (arith, less, c.loop-sink-test.true, c.sink_count-sink-end.ensures))))
          c.loop-sink.invariant.0,
      (let steps = c.loop-sink.invariant.1 in omega (arith, steps, c.value-sum.ensures.step)),
    )

pub returns-clause-times : goal.returns-clause-times
returns-clause-times g c = record {
  load = c.loop-sink.invariant.0.load;
  elmore = λ sink within. c.loop-sink.invariant.0.elmore sink (omega (arith, within, c.loop-sink-test.false, c.sink_count-sink-end.ensures));
}

pub returns-clause-others : goal.returns-clause-others
returns-clause-others g c = c.loop-sink.invariant.0.kept

pub returns-clause-steps : goal.returns-clause-steps
returns-clause-steps g c =
    let steps = c.loop-sink.invariant.1 in omega (arith, steps, c.loop-sink.auto.sink-end, c.sink_count-sink-end.ensures)
