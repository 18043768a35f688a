use Rattle.std.proofs.Common.{◌≡◌, map, take, pos}
use Rattle.nldm_lookup.proofs.axis.kept.Given as goal

-- the points so far
abbrev pub invariant-loop-point : goal.invariant-loop-point
invariant-loop-point l = map pos l.kept.items ≡ take l.point-index l.points
