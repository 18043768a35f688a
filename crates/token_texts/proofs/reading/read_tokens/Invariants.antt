-- The parts so far lead to the machine.
use Rattle.std.proofs.Common.{length}
use Rattle.token_texts.proofs.Loop.{LedTo}
use Rattle.token_texts.proofs.reading.read_tokens.Given as goal

abbrev pub invariant-loop-rest : goal.invariant-loop-rest
invariant-loop-rest g l = record {
  led : LedTo g.R.TokenReader.cut_at g.R.TokenReader.Leads l.bytes l.rest l.number l.start l.reader;
  sound : g.R.TokenReader.IsSound l.number l.reader;
}

abbrev pub decreases-loop-rest : goal.decreases-loop-rest
decreases-loop-rest g l = length l.rest
