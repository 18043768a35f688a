use Rattle.std.proofs.Common.{◌∙◌}
use Rattle.refusals.proofs.Places.{sole_set}
use Rattle.wire_phases.proofs.net_rows.put_delay.Goals as goal

pub returns : goal.returns
returns c = c.set.ensures.written ∙ sole_set c.args.delay.now.values c.args.time c.requires
