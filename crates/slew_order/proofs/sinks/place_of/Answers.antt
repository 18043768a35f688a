use Rattle.std.proofs.Common.{arith}
use Rattle.slew_order.proofs.SinkPlacing.{place_within}
use Rattle.slew_order.proofs.sinks.place_of.Goals as goal

-- src/sinks.rt
pub offset_bounds-places-starts : goal.offset_bounds-places-starts
offset_bounds-places-starts c =
    let below = place_within c.args.netlist.now c.args.starts.now c.args.places.now c.requires.starts c.requires.places c.args.instance c.args.pin
    c.requires.instance c.requires.pin in
    omega (arith, below, c.type_inv.places)

pub bounds-places-starts : goal.bounds-places-starts
bounds-places-starts c = place_within c.args.netlist.now c.args.starts.now c.args.places.now c.requires.starts c.requires.places c.args.instance c.args.pin
    c.requires.instance c.requires.pin
