use Rattle.std.proofs.Common.{ℕ, ◌<◌, slice_index_or}
use Rattle.spef_nets.specs.declared.parts.Listed.{Listed}
use Rattle.rc_tree.specs.Pins.{pin_nodes}
use Rattle.rc_tree.specs.SectionNets.{IsListed}
use Rattle.rc_tree.proofs.numbering.refuse_stranger.Given as goal

-- each connection so far is listed
abbrev pub invariant-loop-place : goal.invariant-loop-place
invariant-loop-place g l = (k : ℕ) (d : Listed) → k < l.place → IsListed l.section (pin_nodes l.pins) (slice_index_or l.section.conns k d)
