-- The name, then the driver, and then the sinks.
use Rattle.std.proofs.Common.{◌++◌}
use Rattle.std.proofs.lemmas.Result.{err_from_is_err_and}
use Rattle.edge_io.specs.Writing.{writes_cut, writes_then}
use Rattle.netlist_link.specs.FlatNetlist.{net_at}
use Rattle.command_rows.specs.FlatText.{net_head, net_end, driver_text}
use Rattle.command_rows.proofs.flat_lines.write_net.Goals as goal

pub returns-in_err-write_net_head : goal.returns-in_err-write_net_head
returns-in_err-write_net_head g c =
    let p = err_from_is_err_and c.from_residual.result c.from_residual.ensures.1 in
    let net = net_at c.args.design.now.netlist c.args.n in
    rw (p.1) record { writes = writes_cut (net_head net) (driver_text c.args.design.now net.driver ++ net_end net) c.in_err-write_net_head.ensures.writes }

pub returns-in_err-write_driver : goal.returns-in_err-write_driver
returns-in_err-write_driver g c =
    let p = err_from_is_err_and c.from_residual-in_err-write_driver.result c.from_residual-in_err-write_driver.ensures.1 in
    let net = net_at c.args.design.now.netlist c.args.n in
    rw (p.1) record {
      writes = writes_then (net_head net) (driver_text c.args.design.now net.driver ++ net_end net) c.in_ok-write_net_head.ensures.writes
          (writes_cut (driver_text c.args.design.now net.driver) (net_end net) c.in_err-write_driver.ensures.writes);
    }

pub returns-in_err-write_sinks : goal.returns-in_err-write_sinks
returns-in_err-write_sinks g c =
    let p = err_from_is_err_and c.from_residual-in_err-write_sinks.result c.from_residual-in_err-write_sinks.ensures.1 in
    let net = net_at c.args.design.now.netlist c.args.n in
    rw (p.1) record {
      writes = writes_then (net_head net) (driver_text c.args.design.now net.driver ++ net_end net) c.in_ok-write_net_head.ensures.writes
          (writes_then (driver_text c.args.design.now net.driver) (net_end net) c.in_ok-write_driver.ensures.writes c.in_err-write_sinks.ensures.writes);
    }
