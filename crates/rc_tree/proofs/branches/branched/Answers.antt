use Rattle.rc_tree.proofs.Judging.{some_node, spots_below}
use Rattle.rc_tree.proofs.branches.branched.Goals as goal

-- src/branches.rt
pub explore-requires-clause-some : goal.explore-requires-clause-some
explore-requires-clause-some g c = some_node c.args.section.now (g.P.PinSource.pins c.args.pins.now c.args.section.now) c.args.numbered.now.spots.items c.args.numbered.now.count c.requires.numbered

pub explore-requires-clause-spots : goal.explore-requires-clause-spots
explore-requires-clause-spots g c = spots_below c.args.section.now (g.P.PinSource.pins c.args.pins.now c.args.section.now) c.args.numbered.now.spots.items c.args.numbered.now.count c.requires.numbered
