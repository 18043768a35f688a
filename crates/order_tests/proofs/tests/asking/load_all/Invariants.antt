use Rattle.net_delays.specs.NetTimes.{Fits}
use Rattle.order_tests.proofs.tests.asking.load_all.Given as goal

abbrev pub invariant-loop-net : goal.invariant-loop-net
invariant-loop-net l = Fits l.netlist l.nets
