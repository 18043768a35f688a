-- A byte that cannot go on.
use Rattle.std.proofs.Common.{sym, ◌∙◌}
use Rattle.sdf_reader.proofs.ScaleWords.{behind_dead}
use Rattle.sdf_reader.proofs.timescales.ScalePlace.behind.Goals as goal

pub returns-in-None : goal.returns-in-None
returns-in-None c = behind_dead c.args.word.now c.loop-byte.byte-index c.args.self c.loop-byte.place c.loop-byte.invariant c.loop-byte-test.true (sym c.after.ensures ∙ c.in-None.is)
