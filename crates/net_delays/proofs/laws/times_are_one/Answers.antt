use Rattle.net_delays.proofs.OneTimes.{one_times}
use Rattle.net_delays.proofs.laws.times_are_one.Goals as goal

-- src/laws.rt
pub returns : goal.returns
returns c = record { law = one_times }
