-- As many as there are expressions behind the port.
use Rattle.std.proofs.Common.{List, length, ap, arith}
use Rattle.verilog_netlist.specs.NetModules.{NetModule, runs_at}
use Rattle.verilog_netlist.proofs.TableReading.{runs_counted}
use Rattle.verilog_netlist.proofs.modules.Modules.run_count.Goals as goal

pub returns : goal.returns
returns c =
    let n = runs_counted c.self.inside.tables c.args.m c.args.k c.args.c c.joined-extent.result c.joined-extent.ensures in
    let v = ap (λ (l : List NetModule). length (runs_at l c.args.m c.args.k c.args.c)) c.self.view_is in
    omega arith
