use Rattle.timing_arcs.proofs.ModelTables.{whole_tables}
use Rattle.timing_arcs.proofs.laws.models_have_whole_tables.Goals as goal

-- src/laws.rt
pub returns : goal.returns
returns c = record { law = whole_tables }
