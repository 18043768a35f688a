use Rattle.std.proofs.Common.{◌∙◌, ap, length, sym, subst}
use Rattle.slew_states.specs.Arcs.{HaveNets}
use Rattle.slew_order.proofs.Cycling.{ordered_no_cycle}
use Rattle.slew_order.proofs.net_order.net_order.Goals as goal

-- src/net_order.rt
pub order_nets-requires-clause-nets : goal.order_nets-requires-clause-nets
order_nets-requires-clause-nets g c =
    subst (λ many. HaveNets many c.flat.result.now) (sym (c.net_count.ensures.count ∙ ap (λ netlist. length netlist.nets) c.netlist.ensures.netlist)) c.flat.ensures.nets

pub returns-in-Ok-clause-none : goal.returns-in-Ok-clause-none
returns-in-Ok-clause-none g c = ordered_no_cycle c.args.design.now c.flat.ensures.there c.flat.ensures.sunk c.net_count.result c.flat.result.now c.in-Ok.order.items
    (c.net_count.ensures.count ∙ ap (λ netlist. length netlist.nets) c.netlist.ensures.netlist) c.flat.ensures.flat c.flat.ensures.nets c.in-Ok.ensures.order
