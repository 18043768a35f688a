-- The word `wire`.
use Rattle.std.proofs.Common.{sym, ◌∙◌}
use Rattle.verilog_netlist.proofs.QuickWords.{wire_word}
use Rattle.verilog_netlist.proofs.words.word_kind.Goals as goal

pub returns-then-are_equal : goal.returns-then-are_equal
returns-then-are_equal c = wire_word c.args.word.now (sym c.are_equal.ensures ∙ c.if-are_equal.true)
