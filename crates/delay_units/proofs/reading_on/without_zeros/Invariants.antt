use Rattle.delay_units.proofs.ShortTallies.{EndsInZeros}
use Rattle.delay_units.proofs.reading_on.without_zeros.Given as goal

abbrev pub invariant-loop-front : goal.invariant-loop-front
invariant-loop-front l = record {
  ends : EndsInZeros l.fn.number l.front l.zeros;
}

abbrev pub decreases-loop-front : goal.decreases-loop-front
decreases-loop-front l = l.front
