-- The short digits in front of the window are in front of the text.
use Rattle.std.proofs.Common.{refl}
use Rattle.delay_units.proofs.FrontSteps.{short_in_front}
use Rattle.delay_units.proofs.short_literals.take_short.Goals as goal

pub returns : goal.returns
returns c = short_in_front c.args.text.now _ _ _ _ _ _ c.split_at.ensures.front c.in_ok-short.ensures refl c.split_at-2.ensures.back
