-- There is a digit where what is left is shorter by more than the point.
use Rattle.delay_units.proofs.FrontSteps.{some_pointless, none_pointless, some_pointed, none_pointed}
use Rattle.delay_units.proofs.fronts.behind_mantissa.Goals as goal

pub returns-then-left-text-clause-none : goal.returns-then-left-text-clause-none
returns-then-left-text-clause-none c =
    none_pointed c.args.text.now _ _ _ c.behind_digits-rest.ensures c.in-Some.ensures c.behind_digits-left.ensures c.if-left-text.true

pub returns-else-left-text-clause-some : goal.returns-else-left-text-clause-some
returns-else-left-text-clause-some c =
    some_pointed c.args.text.now _ _ _ c.behind_digits-rest.ensures c.in-Some.ensures c.behind_digits-left.ensures c.if-left-text.false

pub returns-then-rest-text-clause-none : goal.returns-then-rest-text-clause-none
returns-then-rest-text-clause-none c = none_pointless c.args.text.now _ c.behind_digits-rest.ensures c.in-None.ensures c.if-rest-text.true

pub returns-else-rest-text-clause-some : goal.returns-else-rest-text-clause-some
returns-else-rest-text-clause-some c = some_pointless c.args.text.now _ c.behind_digits-rest.ensures c.in-None.ensures c.if-rest-text.false
