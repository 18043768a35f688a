-- What the whole table has beside the word, the rest of it has.
use Rattle.std.proofs.Common.{◌≡◌, map, drop}
use Rattle.verilog_netlist.specs.Words.{look_up}
use Rattle.verilog_netlist.proofs.words.look_up.Given as goal

abbrev pub invariant-loop-row : goal.invariant-loop-row
invariant-loop-row l = look_up (map (λ k. (k.0.now, k.1)) l.table) l.word ≡ look_up (map (λ k. (k.0.now, k.1)) (drop l.row-index l.table)) l.word
