-- The law is two lemmas.
use Rattle.sdf_read_back.proofs.WellSpelledNodes.{whole_well_spelled, halves_well_spelled}
use Rattle.sdf_read_back.proofs.laws.well_spelled_nodes.Goals as goal

pub returns-clause-whole : goal.returns-clause-whole
returns-clause-whole c = whole_well_spelled

pub returns-clause-halves : goal.returns-clause-halves
returns-clause-halves c = halves_well_spelled
