use Rattle.std.proofs.Common.{◌≤◌, length}
use Rattle.delay_units.specs.ShortLiterals.{TakesDigits}
use Rattle.delay_units.proofs.short_literals.take_digits.Given as goal

abbrev pub invariant-loop-rest : goal.invariant-loop-rest
invariant-loop-rest l = record {
  few : length l.rest ≤ 18;
  taken : TakesDigits l.fn.before l.fn.text l.number l.rest;
}

abbrev pub decreases-loop-rest : goal.decreases-loop-rest
decreases-loop-rest l = length l.rest
