use Rattle.std.proofs.Common.{◌+◌, ◌<◌, sym, ◌∙◌, subst, All}
use Rattle.slew_states.proofs.Graphs.{sources_in, targets_in, carried_loop}
use Rattle.std.proofs.lemmas.Result.{IfErr-weaker}
use Rattle.graph_order.specs.Ends.{CarriesCycle}
use Rattle.slew_states.specs.Ends.{CarriesLoop}
use Rattle.slew_states.proofs.ordering.order_nets.Goals as goal

-- src/ordering.rt
pub order_of-requires-clause-sources : goal.order_of-requires-clause-sources
order_of-requires-clause-sources c = subst (λ list. All (λ node. node < c.args.nets + 2) list) (sym (c.deref.ensures.value ∙ c.in_ok-sources.ensures)) (sources_in c.args.nets c.args.arcs.now c.requires.nets)

pub order_of-requires-clause-targets : goal.order_of-requires-clause-targets
order_of-requires-clause-targets c = subst (λ list. All (λ node. node < c.args.nets + 2) list) (sym (c.deref-2.ensures.value ∙ c.in_ok-targets.ensures)) (targets_in c.args.nets c.args.arcs.now c.requires.nets)

pub returns-clause-cycle : goal.returns-clause-cycle
returns-clause-cycle c = IfErr-weaker c.order_of.result (CarriesCycle c.deref.result.now c.deref-2.result.now) (CarriesLoop c.args.arcs.now)
    (carried_loop c.args.nets c.args.arcs.now c.deref.result.now c.deref-2.result.now c.requires.nets (c.deref.ensures.value ∙ c.in_ok-sources.ensures) (c.deref-2.ensures.value ∙ c.in_ok-targets.ensures)) c.order_of.ensures.cycle
