-- The bits of one entry more.
use Rattle.std.proofs.Common.{◌+◌, ℕ, sym, ap, ◌∙◌, arith}
use Rattle.verilog_netlist.proofs.TableReading.{within_entries, count_more}
use Rattle.verilog_netlist.proofs.tables.Tables.bit_count.Goals as goal

pub loop-place-preserved : goal.loop-place-preserved
loop-place-preserved c =
    let within = within_entries c.args.self.now c.requires.sound c.args.m c.requires.within in
    let test = c.loop-place-test.true in
    let last = c.requires.end in
    record {
      counted = ap (λ (n : ℕ). n + c.run-count.result.count) c.loop-place.invariant.counted
          ∙ sym (count_more c.args.self.now c.args.m c.loop-place.place c.run-count.result c.run-count.ensures.value (c.args.connection.place + 1) c.loop-place.auto.place (omega arith));
      few = (let f = c.run-count.ensures.few.few in let g = c.loop-place.invariant.few in omega arith);
    }
