-- The name of the program, the words, and then the end of the line.
use Rattle.std.proofs.lemmas.Result.{err_from_is_err_and}
use Rattle.edge_io.specs.Writing.{writes_cut, writes_then}
use Rattle.refusals.proofs.lines.write_refusal.Goals as goal

pub returns-in_err-write_all : goal.returns-in_err-write_all
returns-in_err-write_all g c =
    let p = err_from_is_err_and c.from_residual.result c.from_residual.ensures.1 in
    rw (p.1) record { writes = writes_cut _ _ c.in_err-write_all.ensures.writes }

pub returns-in_err-write_words : goal.returns-in_err-write_words
returns-in_err-write_words g c =
    let p = err_from_is_err_and c.from_residual-in_err-write_words.result c.from_residual-in_err-write_words.ensures.1 in
    rw (p.1) record { writes = writes_then _ _ c.in_ok-write_all.ensures.writes (writes_cut _ _ (rw (c.words-words.ensures) at c.in_err-write_words.ensures.writes)) }

pub returns-in_err-write_all-2 : goal.returns-in_err-write_all-2
returns-in_err-write_all-2 g c =
    let p = err_from_is_err_and c.from_residual-in_err-write_all-2.result c.from_residual-in_err-write_all-2.ensures.1 in
    rw (p.1) record {
      writes = writes_then _ _ c.in_ok-write_all.ensures.writes (writes_then _ _ (rw (c.words-words.ensures) at c.in_ok-write_words.ensures.writes) c.in_err-write_all-2.ensures.writes);
    }
