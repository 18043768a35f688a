use Rattle.std.proofs.Common.{◌≡◌, ◌++◌, ◌<◌, length, drop, take, reverse, sym, ap, ◌∙◌, subst, All}
use Rattle.std.proofs.lemmas.Result.{IfOk-weaker}
use Rattle.graph_order.specs.Orders.{IsCycleFromLeast}
use Rattle.graph_order.proofs.Trails.{back_cycle_walk, walk_links, least_first}
use Rattle.graph_order.proofs.cycles.cycle_from.Goals as goal

-- src/cycles.rt
pub least_place-least-requires-clause-links : goal.least_place-least-requires-clause-links
least_place-least-requires-clause-links c =
    let back = c.in_ok-cycle.ensures in
    let walk = back_cycle_walk c.args.sources.now c.args.targets.now back.0 c.in_ok-cycle.cycle.items back.1 in
    subst (λ list. All (λ link. link < length c.args.sources.now) list) (sym (c.deref.ensures.value ∙ c.reverse.ensures.items))
    (λ k d below. walk_links c.args.sources.now c.args.targets.now back.0 (reverse c.in_ok-cycle.cycle.items) back.0 k d walk.1 below)

pub returns : goal.returns
returns c =
    let back = c.in_ok-cycle.ensures in
    let read = c.deref.ensures.value ∙ c.reverse.ensures.items in
    let again = c.deref-2.ensures.value ∙ sym c.deref.ensures.value in
    IfOk-weaker c.from_place.result (λ made. made.items ≡ drop c.least_place-least.result c.deref-2.result.now ++ take c.least_place-least.result c.deref-2.result.now) (λ made. IsCycleFromLeast c.args.sources.now c.args.targets.now made.items)
    (λ made made_is. least_first c.args.sources.now c.args.targets.now back.0 c.in_ok-cycle.cycle.items c.deref.result.now made.items c.least_place-least.result back.1 read
    c.least_place-least.ensures.within c.least_place-least.ensures.least (made_is ∙ ap (λ list. drop c.least_place-least.result list ++ take c.least_place-least.result list) again)) c.from_place.ensures
