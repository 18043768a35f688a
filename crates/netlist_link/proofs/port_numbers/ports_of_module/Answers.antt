use Rattle.std.proofs.Common.{sym, ap, ◌∙◌, true≢false}
use Rattle.verilog_netlist.specs.NetModules.{module_at}
use Rattle.netlist_link.specs.FlatBits.{is_port_way}
use Rattle.netlist_link.specs.PortTables.{IsPortNamed}
use Rattle.netlist_link.proofs.PortNaming.{nameless_next, named_next}
use Rattle.netlist_link.proofs.port_numbers.ports_of_module.Goals.{then-is_port+in-Ok, else-is_port}
use Rattle.netlist_link.proofs.port_numbers.ports_of_module.Goals as goal

pub loop-i-preserved : goal.loop-i-preserved
loop-i-preserved c =
    let names = (module_at c.args.modules.now c.args.m).names in
    let way_is = c.is_port.ensures ∙ ap is_port_way c.way.ensures in
    elim c.if-is_port.branch [
      | then-is_port+in-Ok w ↦ rw w.numbers-is (named_next (IsPortNamed names) c.loop-i.i w.name.result c.loop-i.numbers.entries w.insert.new.self.entries
          (record { port = sym way_is ∙ w.if-is_port.true; text = sym w.name.ensures }) (λ name its. w.name.ensures ∙ its.text)
          c.loop-i.invariant w.in-Ok.ensures.updates.0)
      | else-is_port w ↦ rw w.numbers-is (nameless_next (IsPortNamed names) c.loop-i.i c.loop-i.numbers.entries
          (λ name its. true≢false (sym its.port ∙ sym way_is ∙ w.if-is_port.false)) c.loop-i.invariant)
    ]
