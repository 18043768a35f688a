-- The law is three lemmas.
use Rattle.sdf_read_back.proofs.Nodes.{whole_settles, halves_settle, named_settles}
use Rattle.sdf_read_back.proofs.laws.nodes_settle.Goals as goal

pub returns-clause-whole : goal.returns-clause-whole
returns-clause-whole c = whole_settles

pub returns-clause-halves : goal.returns-clause-halves
returns-clause-halves c = halves_settle

pub returns-clause-named : goal.returns-clause-named
returns-clause-named c = named_settles
