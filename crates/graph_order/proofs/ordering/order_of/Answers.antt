use Rattle.std.proofs.Common.{length, sym, ap, ◌∙◌, subst, arith}
use Rattle.graph_order.specs.Progress.{wait_of, AreStuck}
use Rattle.graph_order.proofs.ordering.order_of.Goals as goal

-- src/ordering.rt
pub cycle_from-requires-clause-stuck : goal.cycle_from-requires-clause-stuck
cycle_from-requires-clause-stuck c =
    subst (λ waits. AreStuck (length waits) c.args.sources.now c.args.targets.now waits) (sym c.deref-in-Some.ensures.value)
    (subst (λ nodes. AreStuck nodes c.args.sources.now c.args.targets.now c.in_ok-order.field-0.waits.items) (sym c.in_ok-order.ensures.waiting.waits_len) c.in_ok-order.ensures.stuck)

pub cycle_from-requires-clause-start : goal.cycle_from-requires-clause-start
cycle_from-requires-clause-start c =
    let found = c.in-Some.ensures.some in
    let size = ap length c.deref.ensures.value ∙ c.in_ok-order.ensures.waiting.waits_len in
    let low = found.1 in
    let step = c.in_ok-order.ensures.stuck found.0 c.in-Some.link (omega (arith, low, size)) (ap (λ waits. wait_of waits found.0) (sym c.deref.ensures.value) ∙ found.2) in
    let link_in = step.0 in let same = c.requires.same in omega (arith, link_in, same)
