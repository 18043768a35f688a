use Rattle.std.proofs.Common.{◌≡◌, ℕ, ◌≤◌, true, List, sym, ap, ◌∙◌, subst, arith}
use Rattle.verilog_netlist.specs.NetModules.{name_at}
use Rattle.netlist_link.specs.FlatBits.{NetBit, is_port_way}
use Rattle.netlist_link.specs.PortRows.{AddsPorts}
use Rattle.netlist_link.proofs.TopPorts.{adds_bit, all_bits}
use Rattle.netlist_link.proofs.ports.add_port.Goals as goal

pub loop-bit-preserved : goal.loop-bit-preserved
loop-bit-preserved c = adds_bit c.args.design.now c.args.i c.loop-bit.bit c.args.ports.now c.loop-bit.ports c.add_bit.new.ports c.loop-bit.invariant
    c.in_ok-add_bit.ensures

pub returns : goal.returns
returns c =
    let d = c.args.design.now in
    let done = (let end = c.width-bit-end.ensures.width in let test = c.loop-bit-test.false in let fits = c.loop-bit.auto.bit-end in
    the_end c.loop-bit.bit c.width-bit-end.result fits test ∙ end) in
    let here : is_port_way (name_at d.modules.now c.top_module-m.result c.args.i).way ≡ true =
    ap is_port_way (sym c.way-way.ensures) ∙ sym c.is_port-port.ensures ∙ c.if-not-port.false in
    subst (λ (l : List NetBit). AddsPorts d l c.args.ports.now c.loop-bit.ports)
    (all_bits d c.top_module-m.result c.args.i c.loop-bit.bit c.top_module-m.ensures here done)
    c.loop-bit.invariant
  where
    the_end : (a b : ℕ) → a ≤ b → b ≤ a → a ≡ b
    the_end a b low high = omega arith
