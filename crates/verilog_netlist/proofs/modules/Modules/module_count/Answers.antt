-- As many as there are rows, but the last.
use Rattle.std.proofs.Common.{length, ap, arith}
use Rattle.verilog_netlist.proofs.TableReading.{length_modules}
use Rattle.verilog_netlist.proofs.modules.Modules.module_count.Goals as goal

pub returns : goal.returns
returns c =
    let l = length_modules c.self.inside.tables c.self.invariant.0 in
    let v = ap length c.self.view_is in
    let e = c.module_count.ensures in
    omega arith
