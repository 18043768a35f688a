-- The lines of the instances, then those of the nets, and then the last that wait.
use Rattle.std.proofs.Common.{[], flat_map}
use Rattle.std.proofs.lemmas.Result.{err_from_is_err_and}
use Rattle.edge_io.specs.Pushing.{pushes_stop, pushes_then, pushes_failed, pushes_flushed}
use Rattle.command_rows.specs.FlatText.{instance_line, net_line}
use Rattle.command_rows.proofs.flat_text.write_flat.Goals as goal

pub returns-in_err-put_instances : goal.returns-in_err-put_instances
returns-in_err-put_instances g c =
    let p = err_from_is_err_and c.from_residual.result c.from_residual.ensures.1 in
    let first = flat_map (instance_line c.args.design.now) c.args.design.now.netlist.instances in
    let second = flat_map (net_line c.args.design.now) c.args.design.now.netlist.nets in
    rw (p.1) record { writes = pushes_failed (pushes_stop [] first second {waiting' = []} (rw (c.new-waiting.ensures) at c.in_err-put_instances.ensures.pushes)) }

pub returns-in_err-put_nets : goal.returns-in_err-put_nets
returns-in_err-put_nets g c =
    let p = err_from_is_err_and c.from_residual-in_err-put_nets.result c.from_residual-in_err-put_nets.ensures.1 in
    let first = flat_map (instance_line c.args.design.now) c.args.design.now.netlist.instances in
    let second = flat_map (net_line c.args.design.now) c.args.design.now.netlist.nets in
    rw (p.1) record { writes = pushes_failed (pushes_then [] first second (rw (c.new-waiting.ensures) at c.in_ok-put_instances.ensures.pushes) c.in_err-put_nets.ensures.pushes) }

pub returns-in_err-flush : goal.returns-in_err-flush
returns-in_err-flush g c =
    let p = err_from_is_err_and c.from_residual-in_err-flush.result c.from_residual-in_err-flush.ensures.1 in
    let first = flat_map (instance_line c.args.design.now) c.args.design.now.netlist.instances in
    let second = flat_map (net_line c.args.design.now) c.args.design.now.netlist.nets in
    rw (p.1) record { writes = pushes_flushed (pushes_then [] first second (rw (c.new-waiting.ensures) at c.in_ok-put_instances.ensures.pushes) c.in_ok-put_nets.ensures.pushes) c.in_err-flush.ensures.writes }

pub returns : goal.returns
returns g c =
    let first = flat_map (instance_line c.args.design.now) c.args.design.now.netlist.instances in
    let second = flat_map (net_line c.args.design.now) c.args.design.now.netlist.nets in
    record { writes = pushes_flushed (pushes_then [] first second (rw (c.new-waiting.ensures) at c.in_ok-put_instances.ensures.pushes) c.in_ok-put_nets.ensures.pushes) c.in_ok-flush.ensures.writes }
