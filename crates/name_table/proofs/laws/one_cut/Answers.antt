use Rattle.name_table.proofs.Cutting.{last_cuts, none_cut}
use Rattle.name_table.proofs.laws.one_cut.Goals as goal

-- src/laws.rt
pub returns : goal.returns
returns c = record { last = last_cuts; none = none_cut }
