-- One expression more, and the end.
use Rattle.std.proofs.Common.{arith}
use Rattle.verilog_netlist.proofs.Ranging.{bound_ends, bound_next, bound_all}
use Rattle.verilog_netlist.proofs.declared.DeclaredNames.may_be_wide.Goals as goal

pub returns-in_default : goal.returns-in_default
returns-in_default c scope narrow =
    bound_ends c.args.bytes.now c.args.behind.now c.args.self.now.rows.entries c.loop-entry.width c.loop-entry.entry-index c.loop-entry.invariant
    c.loop-entry-test.true _ c.most_bits.result c.most_bits.ensures c.in_default.is scope

pub loop-entry-preserved : goal.loop-entry-preserved
loop-entry-preserved c =
    bound_next c.args.bytes.now c.args.behind.now c.args.self.now.rows.entries c.loop-entry.width c.loop-entry.entry-index c.loop-entry.invariant
    c.loop-entry-test.true _ c.most_bits.result c.most_bits.ensures c.in-Some.bits c.in-Some.is (let fits = c.if-bits-width.false in let few = c.loop-entry.invariant.few in omega arith)

pub returns : goal.returns
returns c scope narrow =
    bound_all c.args.bytes.now c.args.behind.now c.args.self.now.rows.entries c.loop-entry.width c.loop-entry.entry-index c.loop-entry.invariant c.loop-entry-test.false scope
