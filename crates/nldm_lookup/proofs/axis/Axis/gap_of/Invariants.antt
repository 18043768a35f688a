use Rattle.nldm_lookup.proofs.Halvings.{IsHalved}
use Rattle.nldm_lookup.proofs.axis.Axis.gap_of.Given as goal

abbrev pub invariant-loop : goal.invariant-loop
invariant-loop g l = IsHalved l.self l.quantity l.low l.high l.counter l.initial.steps l.steps
