use Rattle.std.proofs.Common.{sym, subst}
use Rattle.nldm_lookup.specs.AxisEnds.{IsAxisEnd, refused, far}
use Rattle.nldm_lookup.specs.Betweens.{IsBetween, edge, extend}
use Rattle.nldm_lookup.specs.BetweenOf.{between_of}
use Rattle.nldm_lookup.specs.declared.faults.LookupEnd.TheVariants.{Outside, PastTime}
use Rattle.nldm_lookup.proofs.Ends.{end_within}
use Rattle.nldm_lookup.proofs.axis.Axis.past.Goals as goal

pub neighbours-requires-clause-some : goal.neighbours-requires-clause-some
neighbours-requires-clause-some g c = (end_within c.args.self.now c.args.quantity c.args.end c.requires.whole c.requires.past).many

pub neighbours-requires-clause-first : goal.neighbours-requires-clause-first
neighbours-requires-clause-first g c = (end_within c.args.self.now c.args.quantity c.args.end c.requires.whole c.requires.past).first

pub neighbours-requires-clause-last : goal.neighbours-requires-clause-last
neighbours-requires-clause-last g c = (end_within c.args.self.now c.args.quantity c.args.end c.requires.whole c.requires.past).last

pub neighbours-requires-clause-small : goal.neighbours-requires-clause-small
neighbours-requires-clause-small g c = (end_within c.args.self.now c.args.quantity c.args.end c.requires.whole c.requires.past).small

pub returns-then-quantity-gt-MOST-clause-end : goal.returns-then-quantity-gt-MOST-clause-end
returns-then-quantity-gt-MOST-clause-end g c =
    subst (λ beyond. IsAxisEnd c.args.self.now c.args.axis c.args.quantity beyond PastTime) (sym c.in-Extend.is)
    (far (record { passed = c.args.end; past = c.requires.past }) c.if-quantity-gt-MOST.true)

pub neighbours-requires-in-Extend-clause-some : goal.neighbours-requires-in-Extend-clause-some
neighbours-requires-in-Extend-clause-some g c = (end_within c.args.self.now c.args.quantity c.args.end c.requires.whole c.requires.past).many

pub neighbours-requires-in-Extend-clause-first : goal.neighbours-requires-in-Extend-clause-first
neighbours-requires-in-Extend-clause-first g c = (end_within c.args.self.now c.args.quantity c.args.end c.requires.whole c.requires.past).first

pub neighbours-requires-in-Extend-clause-last : goal.neighbours-requires-in-Extend-clause-last
neighbours-requires-in-Extend-clause-last g c = (end_within c.args.self.now c.args.quantity c.args.end c.requires.whole c.requires.past).last

pub returns-in-Refuse-clause-end : goal.returns-in-Refuse-clause-end
returns-in-Refuse-clause-end g c =
    subst (λ beyond. IsAxisEnd c.args.self.now c.args.axis c.args.quantity beyond (Outside (record { axis = c.args.axis; value = c.args.quantity }))) (sym c.in-Refuse.is)
    (refused (record { passed = c.args.end; past = c.requires.past }))

pub returns-in-Edge-clause-between : goal.returns-in-Edge-clause-between
returns-in-Edge-clause-between g c =
    subst (λ beyond. IsBetween c.args.self.now c.args.quantity beyond (between_of c.neighbours.result)) (sym c.in-Edge.is)
    (edge c.requires.past c.neighbours.ensures.neighbours)

pub returns-else-quantity-gt-MOST-clause-between : goal.returns-else-quantity-gt-MOST-clause-between
returns-else-quantity-gt-MOST-clause-between g c =
    subst (λ beyond. IsBetween c.args.self.now c.args.quantity beyond (between_of c.neighbours-in-Extend.result)) (sym c.in-Extend.is)
    (extend c.requires.past c.neighbours-in-Extend.ensures.neighbours)
