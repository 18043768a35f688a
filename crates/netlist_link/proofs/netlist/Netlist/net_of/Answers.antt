use Rattle.std.proofs.Common.{ℕ, ◌+◌, ◌<◌, length, get_or, None, sym, ap, ◌∙◌, arith}
use Rattle.std.proofs.lemmas.List.{get_or_read}
use Rattle.netlist_link.specs.FlatNetlist.{FlatInstance}
use Rattle.netlist_link.specs.InstanceTables.{no_row, row_at}
use Rattle.netlist_link.specs.declared.instances.InstanceRow.{InstanceRow}
use Rattle.netlist_link.proofs.NetlistReading.{instance_below, instance_here, pins_fit, pins_many, pin_here}
use Rattle.netlist_link.proofs.netlist.Netlist.net_of.Goals as goal

pub index-requires : goal.index-requires
index-requires c =
    let n = c.self.inside in
    let below = instance_below c.args.self.now n.instances n.ports n.net_texts n.drivers.items n.sinks c.self.view_is c.args.i c.requires.instance in
    let ok = n.instances.rows.ok in
    omega arith

pub overflow_add-index : goal.overflow_add-index
overflow_add-index c =
    let n = c.self.inside in
    let below = instance_below c.args.self.now n.instances n.ports n.net_texts n.drivers.items n.sinks c.self.view_is c.args.i c.requires.instance in
    let row = get_or_read n.instances.rows.items c.args.i c.index.result.now below c.index.ensures no_row in
    let many = pins_many n.instances c.self.invariant.instances_are c.args.i below in
    let same = ap (λ (instance : FlatInstance). length instance.nets) (instance_here c.args.self.now n.instances n.ports n.net_texts n.drivers.items n.sinks c.self.view_is c.args.i c.requires.instance) in
    let few : c.args.pin < (row_at n.instances c.args.i).pin_count = (let pin = c.requires.pin in omega arith) in
    let first = ap (λ (r : InstanceRow). r.first_pin) row in
    let fit = pins_fit n.instances c.self.invariant.instances_are c.args.i below in
    let ok = n.instances.pin_nets.ok in
    omega arith

pub index-requires-2 : goal.index-requires-2
index-requires-2 c =
    let n = c.self.inside in
    let below = instance_below c.args.self.now n.instances n.ports n.net_texts n.drivers.items n.sinks c.self.view_is c.args.i c.requires.instance in
    let row = get_or_read n.instances.rows.items c.args.i c.index.result.now below c.index.ensures no_row in
    let many = pins_many n.instances c.self.invariant.instances_are c.args.i below in
    let same = ap (λ (instance : FlatInstance). length instance.nets) (instance_here c.args.self.now n.instances n.ports n.net_texts n.drivers.items n.sinks c.self.view_is c.args.i c.requires.instance) in
    let few : c.args.pin < (row_at n.instances c.args.i).pin_count = (let pin = c.requires.pin in omega arith) in
    let first = ap (λ (r : InstanceRow). r.first_pin) row in
    let fit = pins_fit n.instances c.self.invariant.instances_are c.args.i below in
    let ok = n.instances.pin_nets.ok in
    omega arith

pub returns-in_err-net : goal.returns-in_err-net
returns-in_err-net c =
    let n = c.self.inside in
    let below = instance_below c.args.self.now n.instances n.ports n.net_texts n.drivers.items n.sinks c.self.view_is c.args.i c.requires.instance in
    let row = get_or_read n.instances.rows.items c.args.i c.index.result.now below c.index.ensures no_row in
    let many = pins_many n.instances c.self.invariant.instances_are c.args.i below in
    let same = ap (λ (instance : FlatInstance). length instance.nets) (instance_here c.args.self.now n.instances n.ports n.net_texts n.drivers.items n.sinks c.self.view_is c.args.i c.requires.instance) in
    let few : c.args.pin < (row_at n.instances c.args.i).pin_count = (let pin = c.requires.pin in omega arith) in
    let first = ap (λ (r : InstanceRow). r.first_pin) row in
    let fit = pins_fit n.instances c.self.invariant.instances_are c.args.i below in
    let ok = n.instances.pin_nets.ok in
    let here = get_or_read n.instances.pin_nets.items (c.index.result.now.first_pin + c.args.pin) c.index-2.result.now (omega arith) c.index-2.ensures None in
    let is = ap (λ (k : ℕ). get_or n.instances.pin_nets.items (k + c.args.pin) None) first in
    let whole = sym (pin_here n.instances c.self.invariant.instances_are c.args.i below c.args.pin few)
    ∙ sym (ap (λ (instance : FlatInstance). get_or instance.nets c.args.pin None) (instance_here c.args.self.now n.instances n.ports n.net_texts n.drivers.items n.sinks c.self.view_is c.args.i c.requires.instance)) in
    c.from_residual.ensures ∙ sym c.in_err-net.was ∙ here ∙ is ∙ whole

pub returns : goal.returns
returns c =
    let n = c.self.inside in
    let below = instance_below c.args.self.now n.instances n.ports n.net_texts n.drivers.items n.sinks c.self.view_is c.args.i c.requires.instance in
    let row = get_or_read n.instances.rows.items c.args.i c.index.result.now below c.index.ensures no_row in
    let many = pins_many n.instances c.self.invariant.instances_are c.args.i below in
    let same = ap (λ (instance : FlatInstance). length instance.nets) (instance_here c.args.self.now n.instances n.ports n.net_texts n.drivers.items n.sinks c.self.view_is c.args.i c.requires.instance) in
    let few : c.args.pin < (row_at n.instances c.args.i).pin_count = (let pin = c.requires.pin in omega arith) in
    let first = ap (λ (r : InstanceRow). r.first_pin) row in
    let fit = pins_fit n.instances c.self.invariant.instances_are c.args.i below in
    let ok = n.instances.pin_nets.ok in
    let here = get_or_read n.instances.pin_nets.items (c.index.result.now.first_pin + c.args.pin) c.index-2.result.now (omega arith) c.index-2.ensures None in
    let is = ap (λ (k : ℕ). get_or n.instances.pin_nets.items (k + c.args.pin) None) first in
    let whole = sym (pin_here n.instances c.self.invariant.instances_are c.args.i below c.args.pin few)
    ∙ sym (ap (λ (instance : FlatInstance). get_or instance.nets c.args.pin None) (instance_here c.args.self.now n.instances n.ports n.net_texts n.drivers.items n.sinks c.self.view_is c.args.i c.requires.instance)) in
    sym c.in_ok-net.was ∙ here ∙ is ∙ whole
