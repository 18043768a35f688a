use Rattle.std.proofs.Common.{◌≡◌, length, ap, ◌∙◌, arith}
use Rattle.std.specs.Prelude.{sum_by}
use Rattle.std.proofs.lemmas.List.{take_all}
use Rattle.delay_units.specs.declared.quantities.Farads.{Farads}
use Rattle.netlist_link.specs.FlatNetlist.{net_at}
use Rattle.netlist_link.specs.declared.ends.End.{End}
use Rattle.net_parasitics.specs.Inputs.{Inputs}
use Rattle.net_parasitics.specs.NetPins.{end_load}
use Rattle.net_parasitics.proofs.Lists.{sum_more}
use Rattle.net_parasitics.proofs.inputs.NetInputs.load_sum.Goals as goal

-- src/sink_loads.rt
pub overflow_add-sum : goal.overflow_add-sum
overflow_add-sum g c =
    let many : c.sink_count-sink-end.result ≡ length (net_at c.args.self.now.netlist c.args.net).sinks =
    c.sink_count-sink-end.ensures.count ∙ ap (λ (i : Inputs). length (net_at i.netlist c.args.net).sinks) c.self.view_is in
    let sum = c.loop-sink.invariant.1 in
    omega (arith, sum, many, c.loop-sink-test.true, c.requires.few, c.end_load-sum.ensures.most)

pub loop-sink-preserved : goal.loop-sink-preserved
loop-sink-preserved g c = (
  sum_more (λ (sink : End). (end_load c.args.self.now.netlist c.args.self.now.cells c.args.self.now.port_load (g.C.CornerSet.number_of c.args.corner) sink).0)
      (net_at c.args.self.now.netlist c.args.net).sinks c.loop-sink.sink c.sink.result c.loop-sink.sum c.end_load-sum.result.0 c.sink.ensures.sink c.loop-sink.invariant.0
      (ap (λ (f : Farads). f.0) c.end_load-sum.ensures.load),
  (let sum = c.loop-sink.invariant.1 in omega (arith, sum, c.end_load-sum.ensures.most)),
)

pub returns : goal.returns
returns g c =
    let many : c.sink_count-sink-end.result ≡ length (net_at c.args.self.now.netlist c.args.net).sinks =
    c.sink_count-sink-end.ensures.count ∙ ap (λ (i : Inputs). length (net_at i.netlist c.args.net).sinks) c.self.view_is in
    c.loop-sink.invariant.0
    ∙ ap (sum_by (λ (sink : End). (end_load c.args.self.now.netlist c.args.self.now.cells c.args.self.now.port_load (g.C.CornerSet.number_of c.args.corner) sink).0))
    (take_all c.loop-sink.sink (net_at c.args.self.now.netlist c.args.net).sinks (omega (arith, many, c.loop-sink-test.false)))
