use Rattle.std.proofs.Common.{◌-◌, ◌≤◌, arith, get_or, sym, subst, refl}
use Rattle.nldm_lookup.proofs.Halvings.{halve_up, halve_down, halve_none, moved, one_gap}
use Rattle.nldm_lookup.proofs.axis.Axis.gap_of.Goals.{then-high-low-gt1+then-point-quantity, then-high-low-gt1+else-point-quantity, else-high-low-gt1}
use Rattle.nldm_lookup.proofs.axis.Axis.gap_of.Goals as goal

pub loop-init : goal.loop-init
loop-init g c =
    let size = c.len-high.ensures in
    record {
      order = omega (arith, c.requires.some, size.len);
      within = omega (arith, c.requires.some, size.len);
      lower = c.requires.first;
      upper = subst (λ n. c.args.quantity ≤ get_or c.args.self.now (n - 1) 0) (sym size.len) c.requires.last;
      gap = omega (arith, size.len, size.whole.few);
      forward = omega arith;
      few = omega arith;
    }

pub loop-preserved : goal.loop-preserved
loop-preserved g c = elim c.if-high-low-gt1.branch [
  | then-high-low-gt1+then-point-quantity w ↦
      moved _ _ _ _ _ _ _ _ _ _ w.low-is w.high-is w.steps-is
      (halve_up c.args.self.now c.args.quantity c.loop.low c.loop.high c.loop.counter c.args.steps.now c.loop.steps _ w.point.new.steps
      c.loop-test.true w.if-high-low-gt1.true refl (omega (arith, w.point.ensures.index, w.if-point-quantity.true)) w.point.ensures.step c.loop.invariant)
  | then-high-low-gt1+else-point-quantity w ↦
      moved _ _ _ _ _ _ _ _ _ _ w.low-is w.high-is w.steps-is
      (halve_down c.args.self.now c.args.quantity c.loop.low c.loop.high c.loop.counter c.args.steps.now c.loop.steps _ w.point.new.steps
      c.loop-test.true w.if-high-low-gt1.true refl (omega (arith, w.point.ensures.index, w.if-point-quantity.false)) w.point.ensures.step c.loop.invariant)
  | else-high-low-gt1 w ↦
      moved _ _ _ _ _ _ _ _ _ _ w.low-is w.high-is w.steps-is
      (halve_none c.args.self.now c.args.quantity c.loop.low c.loop.high c.loop.counter c.args.steps.now c.loop.steps
      c.loop-test.true w.if-high-low-gt1.false c.loop.invariant)
]

pub overflow_sub-high-in-loop : goal.overflow_sub-high-in-loop
overflow_sub-high-in-loop g c = omega (arith, c.loop.invariant.order)

pub point-requires : goal.point-requires
point-requires g c = omega (arith, c.loop.invariant.order, c.loop.invariant.within)

pub returns-clause-within : goal.returns-clause-within
returns-clause-within g c =
    let next = one_gap _ _ _ _ _ _ _ c.loop-test.false c.loop.invariant in
    omega (arith, next, c.loop.invariant.within)

pub returns-clause-lower : goal.returns-clause-lower
returns-clause-lower g c = c.loop.invariant.lower

pub returns-clause-upper : goal.returns-clause-upper
returns-clause-upper g c =
    let next = one_gap _ _ _ _ _ _ _ c.loop-test.false c.loop.invariant in
    subst (λ place. c.args.quantity ≤ get_or c.args.self.now place 0) next c.loop.invariant.upper

pub returns-clause-forward : goal.returns-clause-forward
returns-clause-forward g c = c.loop.invariant.forward

pub returns-clause-steps : goal.returns-clause-steps
returns-clause-steps g c = omega (arith, c.loop.invariant.few, c.loop.auto.counter-end)
