-- The nets before `k` stand.
use Rattle.std.proofs.Common.{◌≡◌, ◌++◌}
use Rattle.std.specs.List.{flat_map, range_with_len}
use Rattle.trial_files.specs.BlockSpef.{block_section}
use Rattle.trial_files.proofs.block_spef.push_sections.Given as goal

abbrev pub invariant-loop-k : goal.invariant-loop-k
invariant-loop-k l = l.text ≡ l.initial.text ++ flat_map (block_section l.size) (range_with_len 0 l.k)
