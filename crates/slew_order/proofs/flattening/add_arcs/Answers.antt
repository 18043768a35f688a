use Rattle.std.proofs.Common.{[], ◌∷◌}
use Rattle.slew_order.proofs.Joined.{joined_behind}
use Rattle.slew_order.proofs.flattening.add_arcs.Goals as goal

-- src/flattening.rt
pub loop-arc-preserved : goal.loop-arc-preserved
loop-arc-preserved c = joined_behind (λ arc. record { instance = c.args.instance; arc = arc } ∷ []) c.loop-arc.arc c.args.arcs.now.items c.loop-arc.arcs.items _
    c.loop-arc.invariant c.in_ok-push.ensures.ok
