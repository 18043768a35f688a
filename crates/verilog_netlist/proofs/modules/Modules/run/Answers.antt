-- The run of the entry of this number behind the port.
use Rattle.std.proofs.Common.{List, length, slice_get, Some, ap, sym, ◌∙◌, arith}
use Rattle.verilog_netlist.specs.NetModules.{NetModule, runs_at}
use Rattle.verilog_netlist.specs.declared.runs.Run.{Run}
use Rattle.verilog_netlist.proofs.TableReading.{joined_extent, ends_within, is_joined, runs_counted, run_found}
use Rattle.verilog_netlist.proofs.modules.Modules.run.Goals as goal

pub run-requires-clause-end : goal.run-requires-clause-end
run-requires-clause-end c =
    let tables = c.self.inside.tables in
    let extent = c.connection-extent.result in
    let at = c.connection-extent.ensures in
    let n = runs_counted tables c.args.m c.args.k c.args.c (joined_extent tables c.args.m c.args.k c.args.c extent at) (is_joined tables c.args.m c.args.k c.args.c extent at) in
    let near = ends_within tables c.args.m c.args.k c.args.c extent at in
    let v = ap (λ (l : List NetModule). length (runs_at l c.args.m c.args.k c.args.c)) c.self.view_is in
    let e = at.end in
    let p = c.requires.place in
    omega arith

pub returns-clause-value : goal.returns-clause-value
returns-clause-value c =
    let tables = c.self.inside.tables in
    let extent = c.connection-extent.result in
    let at = c.connection-extent.ensures in
    let n = run_found tables c.args.m c.args.k c.args.c (joined_extent tables c.args.m c.args.k c.args.c extent at) (is_joined tables c.args.m c.args.k c.args.c extent at) c.args.r
    (let v = ap (λ (l : List NetModule). length (runs_at l c.args.m c.args.k c.args.c)) c.self.view_is in let p = c.requires.place in omega arith) in
    ap (λ (l : List NetModule). slice_get (runs_at l c.args.m c.args.k c.args.c) c.args.r) (sym c.self.view_is) ∙ n ∙ ap (λ (r : Run). Some r) (sym c.run.ensures.value)
