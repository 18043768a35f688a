use Rattle.std.proofs.Common.{ℕ, ◌+◌, ◌^◌, ◌<◌, List, length}
use Rattle.delay_units.specs.Tallies.{IsTallyOf}
use Rattle.delay_units.proofs.TallyLemmas.{TakenSoFar}
use Rattle.delay_units.proofs.tally.Tally.take_digits.Given as goal

abbrev pub invariant-loop-rest : goal.invariant-loop-rest
invariant-loop-rest l = record {
  room : l.self.digits + length l.rest < 2 ^ 64;
  some : (ds : List ℕ) × IsTallyOf ds l.self;
  taken : TakenSoFar l.fn.self l.fn.text l.self l.rest;
}

abbrev pub decreases-loop-rest : goal.decreases-loop-rest
decreases-loop-rest l = length l.rest
