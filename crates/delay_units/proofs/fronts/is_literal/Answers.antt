-- The text is a literal where nothing is behind the one in front.
use Rattle.std.proofs.Common.{false}
use Rattle.delay_units.proofs.FrontSteps.{is_by_front, is_by_none, tells_literal}
use Rattle.delay_units.proofs.fronts.is_literal.Goals as goal

pub returns-in-Some-clause-value : goal.returns-in-Some-clause-value
returns-in-Some-clause-value c =
    tells_literal c.args.text.now _ (is_by_front c.args.text.now c.in-Some.rest.now c.is_empty.result c.in-Some.ensures.some c.is_empty.ensures)

pub returns-in-Some-clause-shape : goal.returns-in-Some-clause-shape
returns-in-Some-clause-shape c = is_by_front c.args.text.now c.in-Some.rest.now c.is_empty.result c.in-Some.ensures.some c.is_empty.ensures

pub returns-in-None-clause-value : goal.returns-in-None-clause-value
returns-in-None-clause-value c = tells_literal c.args.text.now false (is_by_none c.args.text.now c.in-None.ensures.none)

pub returns-in-None-clause-shape : goal.returns-in-None-clause-shape
returns-in-None-clause-shape c = is_by_none c.args.text.now c.in-None.ensures.none
