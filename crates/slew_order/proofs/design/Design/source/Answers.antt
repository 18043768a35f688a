use Rattle.std.proofs.Common.{subst}
use Rattle.slew_order.specs.Designs.{AreArcsIn}
use Rattle.slew_order.proofs.Designing.{source_within}
use Rattle.slew_order.proofs.design.Design.source.Goals as goal

-- src/design.rt
pub returns-clause-within : goal.returns-clause-within
returns-clause-within g c = source_within _ c.self.inside.arcs.items c.self.inside.flat.items c.self.inside.sinks.items c.args.arc _
    (subst (λ source. AreArcsIn source c.self.inside.arcs.items c.self.inside.flat.items c.self.inside.sinks.items) c.self.view_is c.self.invariant) c.requires c.index.ensures
