use Rattle.std.proofs.Common.{sym, subst}
use Rattle.netlist_link.specs.BitTables.{AreNetPlaces}
use Rattle.netlist_link.specs.Clashes.{texts_of_nets}
use Rattle.netlist_link.proofs.NetTexts.{bit_there, text_there}
use Rattle.netlist_link.proofs.Pushing.{list_step}
use Rattle.netlist_link.proofs.net_naming.all_net_names.Goals as goal

pub add_net_name-requires-clause-bit : goal.add_net_name-requires-clause-bit
add_net_name-requires-clause-bit c =
    let d = c.args.design.now in
    let places = c.as_slice-net-items.result.now in
    bit_there d places (subst (AreNetPlaces d) (sym c.as_slice-net-items.ensures.value) c.requires.nets) c.loop-net.net-index c.loop-net-test.true

pub loop-net-preserved : goal.loop-net-preserved
loop-net-preserved c =
    let d = c.args.design.now in
    let places = c.as_slice-net-items.result.now in
    let n = c.loop-net.net-index in
    list_step (texts_of_nets d) c.loop-net.names c.add_net_name.new.names n _
    (text_there d places (subst (AreNetPlaces d) (sym c.as_slice-net-items.ensures.value) c.requires.nets) n c.loop-net-test.true)
    c.loop-net.invariant c.in_ok-add_net_name.ensures
