use Rattle.std.proofs.Common.{length, ap, subst, arith}
use Rattle.std.proofs.lemmas.List.{length-map}
use Rattle.rc_tree.specs.PinNames.{pin_name}
use Rattle.rc_tree.specs.Pins.{pin_nodes}
use Rattle.rc_tree.proofs.Nets.{Apart}
use Rattle.rc_tree.proofs.pins.PinLoads.len.Goals as goal

-- src/pins.rt
pub returns-clause-len : goal.returns-clause-len
returns-clause-len g c =
    let size = length-map c.self.inside.sinks.items pin_name in
    let same = ap (λ p. length p.sinks) c.self.view_is in
    omega (arith, size, same, c.len.ensures, c.self.inside.sinks.ok.0)

pub returns-clause-apart : goal.returns-clause-apart
returns-clause-apart g c = subst (λ p. Apart (pin_nodes p)) c.self.view_is c.self.invariant.apart
