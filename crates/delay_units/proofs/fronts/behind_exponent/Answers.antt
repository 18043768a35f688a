-- Without a mark there is no exponent.
use Rattle.std.proofs.Common.{false}
use Rattle.delay_units.proofs.FrontSteps.{unmarked_exponent}
use Rattle.delay_units.proofs.fronts.behind_exponent.Goals as goal

pub returns-in-Some : goal.returns-in-Some
returns-in-Some c = (c.leading_exponent.result.0, c.leading_exponent.ensures)

pub returns-in-None : goal.returns-in-None
returns-in-None c = (record { negative = false; size = 0 }, unmarked_exponent c.args.text.now c.in-None.ensures)
