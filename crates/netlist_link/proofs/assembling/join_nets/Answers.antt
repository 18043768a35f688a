use Rattle.std.proofs.Common.{ℕ, List, length, sym, subst}
use Rattle.netlist_link.specs.Grouping.{AreOnNets, IsByNet}
use Rattle.netlist_link.specs.KeptEnds.{AreDrivers, IsDriversEnd}
use Rattle.netlist_link.specs.declared.grouping.EndOn.{EndOn}
use Rattle.netlist_link.proofs.PartsOfNetlist.{have_cells, driving_on, driven_on, drivers_end, tables_fit, makes_netlist}
use Rattle.netlist_link.proofs.assembling.join_nets.Goals as goal

pub net_ends-requires-clause-cells : goal.net_ends-requires-clause-cells
net_ends-requires-clause-cells c = have_cells c.args.design.now c.requires.design c.args.parts c.requires.parts

pub drivers_of-requires-clause-on : goal.drivers_of-requires-clause-on
drivers_of-requires-clause-on c = subst (λ (ends : List EndOn). AreOnNets (length c.args.parts.net_texts) ends) (sym c.as_slice.ensures.value)
    (driving_on c.args.design.now c.requires.design c.args.parts c.requires.parts c.in_ok-ends.ends.driving.items
    (c.in_ok-ends.ensures.driving c.requires.design.cells c.requires.design.is.pins))

pub by_net-requires-clause-on : goal.by_net-requires-clause-on
by_net-requires-clause-on c = subst (λ (nets : ℕ). AreOnNets nets c.as_slice-2.result.now) (sym c.len.ensures)
    (subst (λ (ends : List EndOn). AreOnNets (length c.args.parts.net_texts) ends) (sym c.as_slice-2.ensures.value)
    (driven_on c.args.design.now c.requires.design c.args.parts c.requires.parts c.in_ok-ends.ends.driven.items
    (c.in_ok-ends.ensures.driven c.requires.design.cells c.requires.design.is.pins)))

pub returns-in-Err-clause-refused : goal.returns-in-Err-clause-refused
returns-in-Err-clause-refused c = drivers_end c.args.design.now c.requires.design c.args.parts c.requires.parts c.requires.faultless
    c.in_ok-ends.ends.driving.items c.in_ok-ends.ensures.driving c.in-Err.end
    (subst (λ (ends : List EndOn). IsDriversEnd c.args.parts.net_texts ends c.in-Err.end) c.as_slice.ensures.value c.in-Err.ensures.refused)

pub invariant_of-result : goal.invariant_of-result
invariant_of-result c = tables_fit c.args.design.now c.requires.design c.args.parts c.requires.parts c.in-Ok.drivers.items c.in_ok-sinks.sinks
    c.in_ok-ends.ends.driving.items c.in_ok-ends.ends.driven.items
    (subst (λ (ends : List EndOn). AreDrivers (length c.args.parts.net_texts) ends c.in-Ok.drivers.items) c.as_slice.ensures.value c.in-Ok.ensures.drivers)
    (subst (λ (ends : List EndOn). IsByNet (length c.args.parts.net_texts) ends c.in_ok-sinks.sinks) c.as_slice-2.ensures.value
    (subst (λ (nets : ℕ). IsByNet nets c.as_slice-2.result.now c.in_ok-sinks.sinks) c.len.ensures c.in_ok-sinks.ensures))
    c.in_ok-check_counts.ensures.nets c.in_ok-check_counts.ensures.instances c.in_ok-ends.ensures.few_driven

pub returns-clause-linked : goal.returns-clause-linked
returns-clause-linked c = makes_netlist c.args.design.now c.args.parts c.requires.parts c.requires.faultless c.in-Ok.drivers.items c.in_ok-sinks.sinks
    c.in_ok-ends.ends.driving.items c.in_ok-ends.ends.driven.items
    (subst (λ (ends : List EndOn). AreDrivers (length c.args.parts.net_texts) ends c.in-Ok.drivers.items) c.as_slice.ensures.value c.in-Ok.ensures.drivers)
    (subst (λ (ends : List EndOn). IsByNet (length c.args.parts.net_texts) ends c.in_ok-sinks.sinks) c.as_slice-2.ensures.value
    (subst (λ (nets : ℕ). IsByNet nets c.as_slice-2.result.now c.in_ok-sinks.sinks) c.len.ensures c.in_ok-sinks.ensures))
    c.in_ok-ends.ensures.driving c.in_ok-ends.ensures.driven
