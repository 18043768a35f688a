use Rattle.std.proofs.Common.{◌≡◌, ◌+◌, ◌*◌, length, refl, arith}
use Rattle.wire_phases.specs.NetRows.{most_steps}
use Rattle.wire_phases.proofs.NetRows.{net_rows_added, sinks_few}
use Rattle.wire_phases.proofs.net_rows.add_net_rows.Goals as goal

pub returns-clause-rows : goal.returns-clause-rows
returns-clause-rows g c =
    net_rows_added c.args.net.now c.in_ok-driver.driver c.put_tree.new.tree c.args.rows.now c.add_rows.new.rows
    c.in_ok-driver.ensures.driver c.in_ok-put_tree.ensures.tree c.in_ok-add_rows.ensures.rows

pub returns-in_err-add_rows-clause-steps : goal.returns-in_err-add_rows-clause-steps
returns-in_err-add_rows-clause-steps g c =
    let few = sinks_few c.args.net.now c.in_ok-driver.driver in
    let most : most_steps 1 c.args.net.now ≡ 16 * (length c.args.net.now.joints + length c.args.net.now.caps + length c.args.net.now.conns) = refl in
    omega (arith, few, most, c.in_ok-driver.ensures.within, c.in_ok-put_tree.ensures.nodes, c.put_tree.ensures.steps, c.put_delays.ensures.steps, c.add_rows.ensures.steps)

pub returns-clause-steps : goal.returns-clause-steps
returns-clause-steps g c =
    let few = sinks_few c.args.net.now c.in_ok-driver.driver in
    let most : most_steps 1 c.args.net.now ≡ 16 * (length c.args.net.now.joints + length c.args.net.now.caps + length c.args.net.now.conns) = refl in
    omega (arith, few, most, c.in_ok-driver.ensures.within, c.in_ok-put_tree.ensures.nodes, c.put_tree.ensures.steps, c.put_delays.ensures.steps, c.add_rows.ensures.steps)
