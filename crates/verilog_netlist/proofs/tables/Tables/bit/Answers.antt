-- The bit is here, or behind this entry.
use Rattle.std.proofs.Common.{List, slice_get, Some, sym, ap, ◌∙◌, arith}
use Rattle.verilog_netlist.specs.NetModules.{joined_bits}
use Rattle.std.specs.List.{flat_map}
use Rattle.verilog_netlist.specs.ModuleTables.{names_at}
use Rattle.verilog_netlist.specs.declared.entries.Entry.{Entry}
use Rattle.verilog_netlist.specs.declared.runs.Bit.{Bit}
use Rattle.verilog_netlist.proofs.TableReading.{within_entries, bit_here, bit_later, stretch_none}
use Rattle.verilog_netlist.proofs.tables.Tables.bit.Goals as goal

pub returns-then-rest-run : goal.returns-then-rest-run
returns-then-rest-run c =
    let within = within_entries c.args.self.now c.requires.sound c.args.m c.requires.within in
    let test = c.loop-place-test.true in
    let last = c.requires.end in
    ap (λ (b : Bit). Some b) c.bit.ensures
    ∙ sym (bit_here c.args.self.now c.args.m c.loop-place.place c.run-run.result c.run-run.ensures.value c.args.connection.end c.loop-place.rest test (omega arith) c.if-rest-run.true)
    ∙ c.loop-place.invariant

pub loop-place-preserved : goal.loop-place-preserved
loop-place-preserved c =
    let within = within_entries c.args.self.now c.requires.sound c.args.m c.requires.within in
    let test = c.loop-place-test.true in
    let last = c.requires.end in
    bit_later c.args.self.now c.args.m c.loop-place.place c.run-run.result c.run-run.ensures.value c.args.connection.end c.loop-place.rest test (omega arith) c.if-rest-run.false
    ∙ c.loop-place.invariant

pub returns : goal.returns
returns c =
    sym (ap (λ (l : List Entry). slice_get (flat_map (joined_bits c.args.self.now.bytes.now (names_at c.args.self.now c.args.m)) l) c.loop-place.rest)
    (stretch_none c.args.self.now.entries.items c.loop-place.place c.args.connection.end c.loop-place-test.false))
    ∙ c.loop-place.invariant
