use Rattle.annotation_rows.proofs.RowLaws.{no_value_no_delay, values_are_delays}
use Rattle.annotation_rows.proofs.laws.values_are_delays.Goals as goal

-- src/laws.rt
pub returns-clause-values : goal.returns-clause-values
returns-clause-values c = values_are_delays

pub returns-clause-none : goal.returns-clause-none
returns-clause-none c = no_value_no_delay
