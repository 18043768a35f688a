use Rattle.name_table.proofs.Spelling.{stays_alone, well_spelled_stays_lem}
use Rattle.name_table.proofs.laws.well_spelled_stays.Goals as goal

-- src/laws.rt
pub returns : goal.returns
returns c = record { law = λ name well. stays_alone name (well_spelled_stays_lem name well) }
