use Rattle.std.proofs.Common.{◌+◌, ◌<◌, length, set, slice_index, sym, ap, ◌∙◌, subst, arith, All}
use Rattle.slew_states.proofs.Graphs.{targets_in}
use Rattle.slew_states.specs.Arcs.{HaveNets, driver_at}
use Rattle.slew_states.specs.PinState.{by_driver, over_arcs}
use Rattle.slew_states.specs.Settled.{states_in}
use Rattle.slew_states.proofs.NetPass.{IsSettling, settling_more, settling_skip, settling_end, settling_steps}
use Rattle.slew_states.proofs.settling.settle.Goals as goal
use Rattle.slew_states.proofs.settling.settle.Goals.{then-net-drivers, else-net-drivers}

-- src/settling.rt
pub fan_of-requires : goal.fan_of-requires
fan_of-requires g c = subst (λ list. All (λ node. node < length c.args.drivers.now + 2) list) (sym (c.deref.ensures.value ∙ c.in_ok-targets.ensures)) (targets_in (length c.args.drivers.now) c.args.arcs.now c.requires.nets)

pub net_states-settled-requires-clause-nets : goal.net_states-settled-requires-clause-nets
net_states-settled-requires-clause-nets g c = subst (λ nets. HaveNets nets c.args.arcs.now) (sym (ap length c.deref-then-net-drivers.ensures.value ∙ c.loop-place.invariant.len)) c.requires.nets

pub loop-place-preserved : goal.loop-place-preserved
loop-place-preserved g c =
    elim c.if-net-drivers.branch [
      | then-net-drivers w ↦
          subst (λ items. IsSettling (g.T.Timing.looks c.args.timing.now) (g.T.Timing.wires c.args.timing.now) c.args.arcs.now c.args.drivers.now c.args.slew c.args.order.now items (c.loop-place.place + 1) c.args.steps.now c.if-net-drivers.steps) (sym (ap (λ states. states.items) w.states-is))
          (subst (λ now. IsSettling (g.T.Timing.looks c.args.timing.now) (g.T.Timing.wires c.args.timing.now) c.args.arcs.now c.args.drivers.now c.args.slew c.args.order.now (set c.loop-place.states.items (slice_index c.args.order.now c.loop-place.place) w.net_states-settled.result) (c.loop-place.place + 1) c.args.steps.now now) (sym w.steps-is)
          (settling_more (g.T.Timing.looks c.args.timing.now) (g.T.Timing.wires c.args.timing.now) c.args.arcs.now c.args.drivers.now c.args.slew c.args.order.now c.loop-place.states.items w.net_states-settled.result c.loop-place.place c.args.steps.now c.loop-place.steps w.net_states-settled.new.steps c.requires.nets c.requires.order
          (omega (arith, c.loop-place-test.true)) (omega (arith, w.if-net-drivers.true))
          (λ edge. w.net_states-settled.ensures.value edge ∙ ap (λ list. by_driver (driver_at c.args.drivers.now (slice_index c.args.order.now c.loop-place.place)) c.args.slew
          (over_arcs (g.T.Timing.looks c.args.timing.now) (g.T.Timing.wires c.args.timing.now) (states_in list) 0 c.args.arcs.now (slice_index c.args.order.now c.loop-place.place) edge)) w.deref-then-net-drivers.ensures.value)
          w.net_states-settled.ensures.small w.net_states-settled.ensures.steps c.loop-place.invariant))
      | else-net-drivers w ↦
          subst (λ items. IsSettling (g.T.Timing.looks c.args.timing.now) (g.T.Timing.wires c.args.timing.now) c.args.arcs.now c.args.drivers.now c.args.slew c.args.order.now items (c.loop-place.place + 1) c.args.steps.now c.if-net-drivers.steps) (sym (ap (λ states. states.items) w.states-is))
          (subst (λ now. IsSettling (g.T.Timing.looks c.args.timing.now) (g.T.Timing.wires c.args.timing.now) c.args.arcs.now c.args.drivers.now c.args.slew c.args.order.now c.loop-place.states.items (c.loop-place.place + 1) c.args.steps.now now) (sym w.steps-is)
          (settling_skip (g.T.Timing.looks c.args.timing.now) (g.T.Timing.wires c.args.timing.now) c.args.arcs.now c.args.drivers.now c.args.slew c.args.order.now c.loop-place.states.items c.loop-place.place c.args.steps.now c.loop-place.steps (omega (arith, c.loop-place-test.true)) (omega (arith, w.if-net-drivers.false)) c.loop-place.invariant))
    ]

pub returns-clause-settled : goal.returns-clause-settled
returns-clause-settled g c =
    settling_end (g.T.Timing.looks c.args.timing.now) (g.T.Timing.wires c.args.timing.now) c.args.arcs.now c.args.drivers.now c.args.slew c.args.order.now c.loop-place.states.items c.loop-place.place c.args.steps.now c.loop-place.steps c.requires.nets c.requires.order (omega (arith, c.loop-place-test.false)) c.loop-place.invariant

pub returns-clause-steps : goal.returns-clause-steps
returns-clause-steps g c =
    settling_steps (g.T.Timing.looks c.args.timing.now) (g.T.Timing.wires c.args.timing.now) c.args.arcs.now c.args.drivers.now c.args.slew c.args.order.now c.loop-place.states.items c.loop-place.place c.args.steps.now c.loop-place.steps c.requires.order (omega (arith, c.loop-place-test.false)) c.loop-place.invariant
