-- One module more.
use Rattle.std.proofs.Common.{◌+◌, ◌≤◌, length, get_or, map, refl, subst, arith}
use Rattle.std.proofs.lemmas.List.Elements.{All-set}
use Rattle.hierarchy.specs.Passes.{value_at, IsMost}
use Rattle.hierarchy.proofs.Passing.{most_within, depth_more, all_later}
use Rattle.hierarchy.proofs.passes.depths_of.Goals as goal

pub overflow_add-most : goal.overflow_add-most
overflow_add-most c =
    let most = subst (λ vs. IsMost (map (value_at vs) c.at.result.now) (length c.at.result.now) c.most_of-most.result) c.deref.ensures.value c.most_of-most.ensures in
    let few = most_within c.loop-m.depths.items c.at.result.now c.loop-m.m-index c.most_of-most.result c.loop-m.invariant.few most in
    let lt = c.loop-m-test.true in
    omega arith

pub loop-m-preserved : goal.loop-m-preserved
loop-m-preserved c =
    let most = subst (λ vs. IsMost (map (value_at vs) c.at.result.now) (length c.at.result.now) c.most_of-most.result) c.deref.ensures.value c.most_of-most.ensures in
    let few = most_within c.loop-m.depths.items c.at.result.now c.loop-m.m-index c.most_of-most.result c.loop-m.invariant.few most in
    let m = get_or c.args.order.now c.loop-m.m-index 0 in
    let later = all_later c.loop-m.depths.items c.loop-m.m-index (c.loop-m.m-index + 1) (omega arith) c.loop-m.invariant.few in
    record {
      passed = depth_more c.args.lowers.now c.args.order.now c.loop-m.depths.items c.at.result.now c.loop-m.m-index m c.most_of-most.result
          c.requires.sorted c.loop-m-test.true refl c.loop-m.invariant.passed c.at.ensures most;
      few = All-set (λ d. d ≤ c.loop-m.m-index + 1) c.loop-m.depths.items m (c.most_of-most.result + 1) (omega arith) later;
    }
