use Rattle.std.proofs.Common.{◌∙◌, ap}
use Rattle.rc_tree.specs.Nodes.{node_of, with_node}
use Rattle.rc_tree.specs.PinNames.{pin_name}
use Rattle.rc_tree.specs.Pins.{pin_nodes}
use Rattle.rc_tree.proofs.Numbers.{pins_named}
use Rattle.rc_tree.proofs.numbering.intern_pins.Goals as goal

-- src/numbering.rt
pub returns : goal.returns
returns g c =
    pins_named pin_name (pin_name c.pins.inside.driver) c.pins.inside.sinks.items c.as_slice.result.now c.pins.invariant.apart c.intern.new.self c.intern_all.new.table
    (c.in_ok-intern.ensures ∙ ap (with_node c.args.table.now) c.key.ensures ∙ ap (λ t. with_node t (node_of (pin_name c.pins.inside.driver))) c.requires) c.as_slice.ensures.value c.in_ok-intern_all.ensures
    ∙ ap pin_nodes c.pins.view_is
