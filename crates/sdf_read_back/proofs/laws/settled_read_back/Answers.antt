-- The law is two lemmas.
use Rattle.sdf_read_back.specs.Names.{IsSettled}
use Rattle.sdf_read_back.proofs.Law.{says, says_only}
use Rattle.sdf_read_back.proofs.laws.settled_read_back.Goals as goal

pub returns-clause-law : goal.returns-clause-law
returns-clause-law c = says IsSettled (λ name is. is)

pub returns-clause-only : goal.returns-clause-only
returns-clause-only c = says_only IsSettled (λ name is. is)
