-- One line after another.
use Rattle.std.proofs.Common.{◌≤◌, length, ap, arith}
use Rattle.std.proofs.lemmas.List.{take_all}
use Rattle.std.proofs.lemmas.Result.{err_from_is_err_and}
use Rattle.edge_io.specs.Pushing.{items_then, items_cut}
use Rattle.netlist_link.specs.FlatNetlist.{FlatNetlist, no_instance}
use Rattle.command_rows.specs.FlatText.{instance_line}
use Rattle.command_rows.proofs.flat_text.put_instances.Goals as goal

pub returns-in_err-put_line : goal.returns-in_err-put_line
returns-in_err-put_line g c =
    let p = err_from_is_err_and c.from_residual.result c.from_residual.ensures.1 in
    let same = ap (λ (n : FlatNetlist). length n.instances) c.netlist.ensures.netlist in
    rw (p.1) record {
      pushes = items_cut (instance_line c.args.design.now) c.args.waiting.now c.args.design.now.netlist.instances c.loop-i.i no_instance
          (omega (arith, c.loop-i-test.true, c.instance_count-i-end.ensures.count, same)) c.loop-i.invariant c.in_err-put_line.ensures.pushes;
    }

pub loop-i-preserved : goal.loop-i-preserved
loop-i-preserved g c =
    let same = ap (λ (n : FlatNetlist). length n.instances) c.netlist.ensures.netlist in
    items_then (instance_line c.args.design.now) c.args.waiting.now c.args.design.now.netlist.instances c.loop-i.i no_instance
    (omega (arith, c.loop-i-test.true, c.instance_count-i-end.ensures.count, same)) c.loop-i.invariant c.in_ok-put_line.ensures.pushes

pub returns : goal.returns
returns g c =
    let same = ap (λ (n : FlatNetlist). length n.instances) c.netlist.ensures.netlist in
    let past : length c.args.design.now.netlist.instances ≤ c.loop-i.i = omega (arith, c.instance_count-i-end.ensures.count, same) in
    record { pushes = rw (take_all _ c.args.design.now.netlist.instances past) at c.loop-i.invariant }
