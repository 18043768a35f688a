use Rattle.std.proofs.Common.{subst}
use Rattle.slew_order.specs.Designs.{AreArcsIn}
use Rattle.slew_order.proofs.Designing.{nets_of_flat}
use Rattle.slew_order.proofs.design.Design.flat.Goals as goal

-- src/design.rt
pub returns-clause-nets : goal.returns-clause-nets
returns-clause-nets g c = nets_of_flat _ c.self.inside.arcs.items c.self.inside.flat.items c.self.inside.sinks.items _
    (subst (λ source. AreArcsIn source c.self.inside.arcs.items c.self.inside.flat.items c.self.inside.sinks.items) c.self.view_is c.self.invariant) c.as_slice.ensures.value
