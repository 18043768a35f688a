use Rattle.std.proofs.Common.{◌<◌, length}
use Rattle.delay_units.proofs.LiteralLemmas.{SizedSoFar}
use Rattle.delay_units.proofs.literal.read_size.Given as goal

abbrev pub invariant-loop-rest : goal.invariant-loop-rest
invariant-loop-rest l = record {
  small : l.size < 1000;
  sized : SizedSoFar l.fn.text l.size l.rest;
}

abbrev pub decreases-loop-rest : goal.decreases-loop-rest
decreases-loop-rest l = length l.rest
