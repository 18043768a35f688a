-- The words before this one are written.
use Rattle.std.proofs.Common.{Ok, flat_map, take}
use Rattle.edge_io.specs.Writing.{Writes}
use Rattle.refusals.specs.Words.{word_line}
use Rattle.refusals.proofs.lines.write_words.Given as goal

abbrev pub invariant-loop-word : goal.invariant-loop-word
invariant-loop-word g l =
    Writes (flat_map word_line (take l.word-index l.words)) (g.E.Sink.written l.fn.err) (g.E.Sink.written l.err) (g.E.Sink.faults l.fn.err) (g.E.Sink.faults l.err) (Ok tt)
