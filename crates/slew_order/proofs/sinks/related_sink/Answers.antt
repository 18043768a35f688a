use Rattle.std.proofs.Common.{◌∙◌, sym, arith}
use Rattle.slew_order.proofs.Placing.{place_below}
use Rattle.slew_order.proofs.sinks.related_sink.Goals as goal

-- src/sinks.rt
pub offset_bounds-places-starts : goal.offset_bounds-places-starts
offset_bounds-places-starts g c =
    let below = place_below c.args.linked.now.netlist c.args.starts.now c.requires.starts c.args.places.now c.requires.places c.args.at.instance
    c.cell_arc.result.now.from c.in-Some.field-0 (sym c.net_of.ensures ∙ c.in-Some.is) in
    omega (arith, below, c.type_inv.places)
