-- The capacitances at the nodes up to `k` stand.
use Rattle.std.proofs.Common.{◌≡◌, ◌++◌, codes}
use Rattle.std.specs.List.{flat_map, range_with_len}
use Rattle.trial_files.specs.ChainSpef.{chain_cap}
use Rattle.trial_files.proofs.chain.push_caps.Given as goal

abbrev pub invariant-loop-k : goal.invariant-loop-k
invariant-loop-k l = l.text ≡ l.fn.text ++ (codes "*CAP\n" ++ flat_map (chain_cap l.size) (range_with_len 1 l.k))
