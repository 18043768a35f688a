-- What the whole says is the text so far, and what the rest says.
use Rattle.sdf_reader.proofs.Saying.{SaidSoFar}
use Rattle.sdf_reader.proofs.texts.unescaped.Given as goal

abbrev pub invariant-loop-byte : goal.invariant-loop-byte
invariant-loop-byte l = SaidSoFar l.raw l.text l.is_taken l.byte-index
