-- What is met and what the frames hold is the whole walk; a turn meets an instance or leaves a module.
use Rattle.std.proofs.Common.{◌+◌, ◌-◌, ◌*◌, length}
use Rattle.hierarchy.specs.Walks.{whole_walk}
use Rattle.hierarchy.specs.WalkProgress.{IsGoing}
use Rattle.hierarchy.proofs.walking.walk_modules.Given as goal

abbrev pub invariant-loop-frame : goal.invariant-loop-frame
invariant-loop-frame l = IsGoing l.modules l.top l.visits.items l.met.items l.frames.items

abbrev pub decreases-loop-frame : goal.decreases-loop-frame
decreases-loop-frame l = 2 * (length (whole_walk l.modules l.top) - length l.met.items) + length l.frames.items
