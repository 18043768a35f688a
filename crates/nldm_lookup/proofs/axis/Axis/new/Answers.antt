use Rattle.std.proofs.Common.{arith}
use Rattle.std.specs.Rc.{rc_slice_items}
use Rattle.nldm_lookup.specs.Axes.{empty, too_long, not_rising, no_memory}
use Rattle.nldm_lookup.proofs.Gaps.{kept_axis}
use Rattle.nldm_lookup.proofs.axis.Axis.new.Goals as goal

pub returns-then-is_empty-clause-refused : goal.returns-then-is_empty-clause-refused
returns-then-is_empty-clause-refused c = empty (grind (arith, c.is_empty.ensures, c.if-is_empty.true))

pub returns-then-points-gt-MOST_POINTS-clause-refused : goal.returns-then-points-gt-MOST_POINTS-clause-refused
returns-then-points-gt-MOST_POINTS-clause-refused c = too_long (omega (arith, c.if-points-gt-MOST_POINTS.true))

pub returns-in-Some-clause-refused : goal.returns-in-Some-clause-refused
returns-in-Some-clause-refused c = not_rising c.in-Some.place c.if-points-gt-MOST_POINTS.false c.in-Some.ensures.some c.in-Some.ensures.first

pub invariant_of-result : goal.invariant_of-result
invariant_of-result c =
    kept_axis (rc_slice_items c.in-Ok.points) c.args.points.now c.in-Ok.ensures (grind (arith, c.is_empty.ensures, c.if-is_empty.false)) c.if-points-gt-MOST_POINTS.false c.in_default.ensures.none c.requires.small

pub returns-in-Err-clause-refused : goal.returns-in-Err-clause-refused
returns-in-Err-clause-refused c = no_memory
