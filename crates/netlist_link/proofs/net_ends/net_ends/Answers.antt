use Rattle.std.proofs.Common.{◌++◌, true, false, List, ◌∙◌, ap}
use Rattle.netlist_link.specs.FlatNetlist.{EndOn, port_ends, instance_ends, is_output_pin, is_input_pin}
use Rattle.netlist_link.specs.InstanceTables.{instances_in}
use Rattle.netlist_link.specs.KeptEnds.{flat_ends}
use Rattle.netlist_link.specs.PortRows.{ports_in}
use Rattle.netlist_link.specs.declared.grouping.EndOn as kept
use Rattle.netlist_link.proofs.EndLists.{output_selects, input_selects}
use Rattle.netlist_link.proofs.net_ends.net_ends.Goals as goal

pub returns-clause-driving : goal.returns-clause-driving
returns-clause-driving c = λ cells are.
    let ports = ports_in c.args.ports.now in
    let instances = instances_in c.args.instances.now in
    c.in_ok-add_instance_ends.ensures.driving cells is_output_pin are output_selects
    ∙ ap (λ (l : List EndOn). l ++ instance_ends cells is_output_pin 0 instances) (c.in_ok-add_port_ends.ensures
    ∙ ap (λ (l : List kept.EndOn). flat_ends l ++ port_ends true 0 ports) c.in_ok-driving.ensures.items)

pub returns-clause-driven : goal.returns-clause-driven
returns-clause-driven c = λ cells are.
    let ports = ports_in c.args.ports.now in
    let instances = instances_in c.args.instances.now in
    c.in_ok-add_port_ends-2.ensures
    ∙ ap (λ (l : List EndOn). l ++ port_ends false 0 ports) (c.in_ok-add_instance_ends.ensures.driven cells is_input_pin are input_selects
    ∙ ap (λ (l : List kept.EndOn). flat_ends l ++ instance_ends cells is_input_pin 0 instances) c.in_ok-driven.ensures.items)
