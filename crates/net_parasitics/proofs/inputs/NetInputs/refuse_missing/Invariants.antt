use Rattle.std.proofs.Common.{ℕ, ◌<◌}
use Rattle.net_parasitics.specs.NetTrees.{IsMissing}
use Rattle.net_parasitics.proofs.inputs.NetInputs.refuse_missing.Given as goal

abbrev pub invariant-loop-net : goal.invariant-loop-net
invariant-loop-net g l = (net : ℕ) → net < l.net → ¬ IsMissing l.self net
