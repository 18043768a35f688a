use Rattle.std.proofs.Common.{◌≡◌, ℕ, ◌++◌, List, Option, ap₂, ◌∙◌, subst}
use Rattle.std.specs.Prelude.{IsTrue, ◌↔◌}
use Rattle.name_table.specs.SdfNames.{part}
use Rattle.verilog_netlist.specs.declared.entries.Range.{Range}
use Rattle.verilog_netlist.specs.declared.net_names.Way.{Way}
use Rattle.verilog_netlist.specs.declared.net_names.Way.TheVariants as way
use Rattle.netlist_link.specs.FlatNames.{bit_suffix}
use Rattle.netlist_link.specs.FlatNetlist.{FlatPort}
use Rattle.netlist_link.specs.PortRows.{top_bit}
use Rattle.netlist_link.proofs.TopPorts.{bit_added, is_port_of}
use Rattle.netlist_link.proofs.ports.add_bit.Goals as goal

pub returns : goal.returns
returns c =
    let d = c.args.design.now in
    let i = c.args.i in
    let bit = c.args.bit in
    let port : FlatPort = record {
      text = c.in_ok-text.text;
      sdf = c.in_ok-spelling.spelling;
      net = c.top_net-net.result;
      is_input = c.is_input-input.result;
    } in
    bit_added d c.args.ports.now c.keep_port.new.ports (top_bit i bit) port c.in_ok-keep_port.ensures
    (λ cells. is_port_of d cells c.top_module-m.result i bit port c.top_module-m.ensures
    (c.in_ok-text.ensures ∙ ap₂ (λ (n : List ℕ) (r : Option Range). n ++ bit_suffix r bit) c.name-name.ensures c.range-range.ensures)
    (c.in_ok-spelling.ensures ∙ ap₂ (λ (n : List ℕ) (r : Option Range). part n ++ bit_suffix r bit) c.name-name.ensures c.range-range.ensures)
    c.top_net-net.ensures
    (subst (λ (w : Way). IsTrue c.is_input-input.result ↔ (w ≡ way.In)) c.way-way.ensures c.is_input-input.ensures))
