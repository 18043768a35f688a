use Rattle.std.proofs.Common.{◌≡◌, ◌*◌, ◌≤◌, [], ◌∷◌, ◌++◌, OnOk, take, drop, sym, subst}
use Rattle.std.specs.Prelude.{Contains}
use Rattle.std.proofs.lemmas.List.Elements.{All-take, All-drop}
use Rattle.delay_units.specs.Bounds.{most_farads}
use Rattle.delay_units.specs.declared.quantities.Farads.{Farads}
use Rattle.netlist_link.specs.FlatNetlist.{net_at}
use Rattle.rc_tree.specs.Nodes.{node_of}
use Rattle.rc_tree.specs.PinNames.{pin_name}
use Rattle.rc_tree.specs.Pins.{Pins, pin_nodes, row_of}
use Rattle.net_parasitics.specs.NetPins.{end_loads, pins_to}
use Rattle.net_parasitics.proofs.NodeNames.{next_differs}
use Rattle.net_parasitics.proofs.NetPins.{pins_more}
use Rattle.net_parasitics.proofs.inputs.NetInputs.add_sink.Goals as goal

-- src/net_pins.rt
pub add-requires-clause-other : goal.add-requires-clause-other
add-requires-clause-other g c =
    let inputs = c.args.self.now in
    let sinks = (net_at inputs.netlist c.args.net).sinks in
    subst (λ (p : Pins). ¬ Contains (pin_nodes p) (node_of (pin_name c.end_name.result))) (sym c.requires.pins)
    (subst (λ n. ¬ Contains (pin_nodes (pins_to inputs c.args.driver (take c.args.sink sinks))) (node_of n)) (sym c.end_name.ensures)
    (next_differs inputs c.args.net c.args.driver c.args.sink c.sink-end.result c.sound.ensures.sound.apart c.sound.ensures.sound.linked c.requires.wired c.sink-end.ensures.sink c.pins_differ.ensures))

pub add-requires-clause-small : goal.add-requires-clause-small
add-requires-clause-small g c =
    All-take (λ (load : Farads). load.0 ≤ most_farads) g.C.CornerSet.COUNT (drop (0 * g.C.CornerSet.COUNT) c.put_loads.new.row.values)
    (All-drop (λ (load : Farads). load.0 ≤ most_farads) (0 * g.C.CornerSet.COUNT) c.put_loads.new.row.values c.put_loads.ensures.most)

pub returns-clause-pins : goal.returns-clause-pins
returns-clause-pins g c =
    let inputs = c.args.self.now in
    let sinks = (net_at inputs.netlist c.args.net).sinks in
    pins_more c.add.result inputs c.args.driver sinks c.args.sink c.sink-end.result (pin_name c.end_name.result) c.put_loads.new.row.values c.args.pins.now c.add.new.self
    c.sink-end.ensures.sink c.end_name.ensures
    (subst (λ count. c.put_loads.new.row.values ≡ end_loads inputs.netlist inputs.cells count inputs.port_load c.sink-end.result) (sym c.sound.ensures.count) c.put_loads.ensures.loads)
    c.requires.pins
    (subst (λ count. OnOk c.add.result (c.add.new.self ≡ record {
      driver = c.args.pins.now.driver;
      sinks = c.args.pins.now.sinks ++ pin_name c.end_name.result ∷ [];
      loads = c.args.pins.now.loads ++ row_of count c.put_loads.new.row.values 0;
    })) (sym c.sound.ensures.count) c.add.ensures.ok)
