use Rattle.std.proofs.Common.{◌≡◌, ℕ, Some, sym, subst, arith}
use Rattle.std.specs.Prelude.{slice_get}
use Rattle.netlist_link.specs.BitTables.{nets_of}
use Rattle.netlist_link.specs.PortRows.{top_bit}
use Rattle.netlist_link.proofs.TopPorts.{has_flat_bit, has_bit, net_is}
use Rattle.netlist_link.proofs.ports.top_net.Goals as goal

pub net-net-requires : goal.net-net-requires
net-net-requires c = record {
  within = has_flat_bit c.args.design.now c.args.bits.now c.args.m c.args.i c.args.bit c.requires.bits c.requires.top c.requires.place c.requires.bit;
}

pub returns : goal.returns
returns c =
    let d = c.args.design.now in
    let i = c.args.i in
    let bit = c.args.bit in
    subst (λ (n : ℕ). slice_get (nets_of d) n ≡ Some (top_bit i bit)) (sym c.unwrap_or.ensures)
    (net_is d i bit c.net-net.result (c.net-net.ensures.on d c.requires.bits (omega arith) c.requires.top
    (has_bit d c.args.bits.now c.args.m i bit c.requires.bits c.requires.top c.requires.place c.requires.bit)))
