use Rattle.std.proofs.Common.{◌≡◌, ℕ, [], length, ap, subst, arith}
use Rattle.hierarchy.specs.Walks.{joined_from}
use Rattle.verilog_netlist.specs.NetModules.{module_at}
use Rattle.netlist_link.specs.FlatBits.{ports_of_name}
use Rattle.netlist_link.specs.PathTables.{top_of}
use Rattle.netlist_link.specs.PortRows.{HoldsPorts}
use Rattle.netlist_link.proofs.TopPorts.{holds_name, are_ports}
use Rattle.netlist_link.proofs.ports.top_ports.Goals as goal

pub loop-i-preserved : goal.loop-i-preserved
loop-i-preserved c = λ cells. holds_name c.args.design.now cells c.loop-i.i c.loop-i.ports c.add_port.new.ports (c.loop-i.invariant cells)
    c.in_ok-add_port.ensures

pub returns-clause-tables : goal.returns-clause-tables
returns-clause-tables c = (c.loop-i.invariant []).tables

pub returns-clause-are : goal.returns-clause-are
returns-clause-are c = λ cells.
    let d = c.args.design.now in
    let top = top_of d.walk.now in
    let many = ap (λ (k : ℕ). length (module_at d.modules.now k).names) c.top_module-m.ensures in
    let done : c.loop-i.i ≡ length (module_at d.modules.now top).names =
    (let end = c.name_count-i-end.ensures in let test = c.loop-i-test.false in let fits = c.loop-i.auto.i-end in omega arith) in
    are_ports d cells c.loop-i.ports
    (subst (λ (n : ℕ). HoldsPorts d cells (joined_from (ports_of_name d.modules.now top) 0 n) c.loop-i.ports) done (c.loop-i.invariant cells))
