use Rattle.annotation_rows.proofs.SpelledRows.{spelled_rows}
use Rattle.annotation_rows.proofs.laws.rows_are_well_spelled.Goals as goal

-- src/laws.rt
pub returns : goal.returns
returns c = record { law = spelled_rows }
