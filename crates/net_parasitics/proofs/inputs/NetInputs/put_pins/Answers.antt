use Rattle.std.proofs.Common.{◌≡◌, [], length, ap, ◌∙◌, arith}
use Rattle.std.proofs.lemmas.List.{take_all}
use Rattle.name_table.specs.declared.spef_names.NodeName.{NodeName}
use Rattle.netlist_link.specs.FlatNetlist.{net_at}
use Rattle.net_parasitics.specs.Inputs.{Inputs}
use Rattle.net_parasitics.specs.NetPins.{pins_to}
use Rattle.net_parasitics.proofs.NodeNames.{driver_is_end}
use Rattle.net_parasitics.proofs.inputs.NetInputs.put_pins.Goals as goal

-- src/net_pins.rt
pub end_name-requires : goal.end_name-requires
end_name-requires g c = driver_is_end c.args.self.now.cells c.args.self.now.netlist c.args.net c.args.driver c.sound.ensures.sound.linked c.requires.wired

pub loop-sink-init : goal.loop-sink-init
loop-sink-init g c = (c.requires.one_row, c.restart.ensures ∙ ap (λ (n : NodeName). record { driver = n; sinks = []; loads = [] }) c.end_name.ensures)

pub returns-clause-pins : goal.returns-clause-pins
returns-clause-pins g c =
    let sinks = (net_at c.args.self.now.netlist c.args.net).sinks in
    let many : c.sink_count-sink-end.result ≡ length sinks =
    c.sink_count-sink-end.ensures.count ∙ ap (λ (i : Inputs). length (net_at i.netlist c.args.net).sinks) c.self.view_is in
    c.loop-sink.invariant.1 ∙ ap (pins_to c.args.self.now c.args.driver) (take_all c.loop-sink.sink sinks (omega (arith, many, c.loop-sink-test.false)))
