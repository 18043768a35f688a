use Rattle.std.proofs.Common.{◌≡◌, ℕ, ◌<◌, false, get_or}
use Rattle.name_table.specs.NodeKeys.{same_key}
use Rattle.rc_tree.specs.Nodes.{Node}
use Rattle.rc_tree.proofs.few_pins.FewPins.place_of.Given as goal

-- none of the pins so far
abbrev pub invariant-loop-place : goal.invariant-loop-place
invariant-loop-place l = (k : ℕ) (d : Node) → k < l.place → same_key l.key (get_or l.self k d) ≡ false
