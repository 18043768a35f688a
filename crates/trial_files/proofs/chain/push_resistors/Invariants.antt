-- The resistors before the nodes up to `before` stand.
use Rattle.std.proofs.Common.{◌≡◌, ◌++◌, codes}
use Rattle.std.specs.List.{flat_map, range_with_len}
use Rattle.trial_files.specs.ChainSpef.{chain_resistor}
use Rattle.trial_files.proofs.chain.push_resistors.Given as goal

abbrev pub invariant-loop-before : goal.invariant-loop-before
invariant-loop-before l = l.text ≡ l.fn.text ++ (codes "*RES\n" ++ flat_map (chain_resistor l.size) (range_with_len 1 l.before))
