-- The rows between two starts.
use Rattle.std.proofs.Common.{length, map, take, drop, ap, ◌∙◌, arith}
use Rattle.verilog_netlist.specs.ModuleTables.{name_row}
use Rattle.verilog_netlist.proofs.TableReading.{starts_within, rows_order, rows_cut}
use Rattle.verilog_netlist.proofs.tables.Tables.names.Goals as goal

pub index-requires : goal.index-requires
index-requires c = let w = starts_within c.args.self.now c.requires.sound c.args.m c.requires.place in let l = c.args.self.now.names.starts.ok.0 in omega arith

pub overflow_add-m : goal.overflow_add-m
overflow_add-m c = let w = starts_within c.args.self.now c.requires.sound c.args.m c.requires.place in let l = c.args.self.now.names.starts.ok in grind (arith, w, l)

pub index-requires-2 : goal.index-requires-2
index-requires-2 c = let w = starts_within c.args.self.now c.requires.sound c.args.m c.requires.place in let l = c.args.self.now.names.starts.ok.0 in omega arith

pub split_at-requires : goal.split_at-requires
split_at-requires c =
    let o = (rows_order c.args.self.now c.requires.sound c.args.m c.requires.place c.index.result.now c.index-2.result.now c.index.ensures c.index-2.ensures).1 in
    let l = ap length c.as_slice.ensures.value in omega arith

pub split_at-requires-2 : goal.split_at-requires-2
split_at-requires-2 c =
    let o = (rows_order c.args.self.now c.requires.sound c.args.m c.requires.place c.index.result.now c.index-2.result.now c.index.ensures c.index-2.ensures).0 in
    let l = c.split_at.ensures.front_len in omega arith

pub returns : goal.returns
returns c =
    ap (map name_row) (c.split_at-2.ensures.back ∙ ap (drop c.index.result.now) (c.split_at.ensures.front ∙ ap (take c.index-2.result.now) c.as_slice.ensures.value))
    ∙ rows_cut c.args.self.now c.requires.sound c.args.m c.requires.place c.index.result.now c.index-2.result.now c.index.ensures c.index-2.ensures
