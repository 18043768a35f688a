-- The law is two lemmas.
use Rattle.name_table.specs.WellSpelled.{IsWellSpelled}
use Rattle.sdf_read_back.proofs.Law.{says, says_only}
use Rattle.sdf_read_back.proofs.Names.{well_spelled_settles}
use Rattle.sdf_read_back.proofs.laws.read_back.Goals as goal

pub returns-clause-law : goal.returns-clause-law
returns-clause-law c = says IsWellSpelled well_spelled_settles

pub returns-clause-only : goal.returns-clause-only
returns-clause-only c = says_only IsWellSpelled well_spelled_settles
