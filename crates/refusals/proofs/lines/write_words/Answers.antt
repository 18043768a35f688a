-- One word after another.
use Rattle.std.proofs.lemmas.Result.{err_from_is_err_and}
use Rattle.edge_io.specs.Writing.{items_cut}
use Rattle.refusals.specs.Words.{word_line}
use Rattle.refusals.proofs.lines.write_words.Goals as goal

pub returns-in_err-write_word : goal.returns-in_err-write_word
returns-in_err-write_word g c =
    let p = err_from_is_err_and c.from_residual.result c.from_residual.ensures.1 in
    rw (p.1) record {
      writes = items_cut word_line c.args.words.now c.loop-word.word-index c.word-item.result c.loop-word-test.true c.word-item.is c.loop-word.invariant c.in_err-write_word.ensures.writes;
    }
