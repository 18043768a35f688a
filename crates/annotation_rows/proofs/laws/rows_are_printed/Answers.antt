use Rattle.annotation_rows.proofs.PrintedRows.{printed_rows}
use Rattle.annotation_rows.proofs.laws.rows_are_printed.Goals as goal

-- src/laws.rt
pub returns : goal.returns
returns c = record { law = printed_rows }
