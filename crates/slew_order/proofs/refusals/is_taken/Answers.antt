use Rattle.std.proofs.Common.{◌∙◌, ap, sym, not, length, arith}
use Rattle.std.proofs.lemmas.Bool.{false≢true}
use Rattle.slew_states.specs.Arcs.{arc_at, driver_at}
use Rattle.slew_order.specs.FlatArcs.{drivers_of}
use Rattle.slew_order.proofs.StuckNets.{not_refused}
use Rattle.slew_order.proofs.refusals.is_taken.Goals as goal

-- src/refusals.rt
pub is_driven-requires : goal.is_driven-requires
is_driven-requires g c =
    let below = (c.flat.ensures.nets c.args.arc c.in-Some.net (let within = c.requires.arc in let many = c.flat.ensures.many in omega (arith, within, many))).1 c.in-Some.is in
    let same = ap (λ n. length n.nets) c.netlist.ensures.netlist in
    omega (arith, below, same)

pub returns-then-is_driven : goal.returns-then-is_driven
returns-then-is_driven g c = λ free. not_refused c.args.design.now c.netlist.ensures.source c.requires.none c.args.arc c.args.edge c.args.number c.in-Some.net c.args.states.now
    c.requires.arc c.requires.states
    (ap (λ list. (arc_at list c.args.arc).target) (sym c.flat.ensures.flat) ∙ c.in-Some.is)
    (ap (λ n. driver_at (drivers_of n) c.in-Some.net) (sym c.netlist.ensures.netlist) ∙ c.is_driven.ensures c.if-is_driven.true)
    (λ is. false≢true (sym (ap not (c.is_stuck.ensures.1 (c.at.ensures ∙ is))) ∙ free))
