use Rattle.annotation_rows.proofs.RowLaws.{live_rows}
use Rattle.annotation_rows.proofs.laws.live_paths_have_rows.Goals as goal

-- src/laws.rt
pub returns : goal.returns
returns c = record { law = live_rows }
