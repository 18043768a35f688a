use Rattle.std.proofs.Common.{◌≡◌, take}
use Rattle.netlist_link.specs.Clashes.{texts_of_nets}
use Rattle.netlist_link.proofs.net_naming.all_net_names.Given as goal

abbrev pub invariant-loop-net : goal.invariant-loop-net
invariant-loop-net l = l.names ≡ take l.net-index (texts_of_nets l.design)
