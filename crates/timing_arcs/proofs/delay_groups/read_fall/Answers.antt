use Rattle.liberty_groups.specs.Tables.{tree_of}
use Rattle.timing_arcs.proofs.EdgeLemmas.{ok_found, sound_found, refused_found}
use Rattle.timing_arcs.proofs.delay_groups.read_fall.Goals as goal

pub returns-clause-ok : goal.returns-clause-ok
returns-clause-ok c = ok_found c.read_edge.result (tree_of c.args.cell.now.tree) c.first_group-delay.ensures.first c.first_group-slew.ensures.first c.read_edge.ensures.ok

pub returns-clause-sound : goal.returns-clause-sound
returns-clause-sound c = sound_found c.read_edge.result (tree_of c.args.cell.now.tree) c.first_group-delay.ensures.first c.first_group-slew.ensures.first c.read_edge.ensures.sound

pub returns-clause-refused : goal.returns-clause-refused
returns-clause-refused c = refused_found c.read_edge.result (tree_of c.args.cell.now.tree) c.first_group-delay.ensures.first c.first_group-slew.ensures.first c.read_edge.ensures.refused
