use Rattle.netlist_link.specs.PathTables.{top_of}
use Rattle.netlist_link.proofs.MetPlaces.{met_is, met_visited, met_module, met_within, met_module_within}
use Rattle.netlist_link.proofs.checking.place_of.Goals as goal

pub bounds-visits-met : goal.bounds-visits-met
bounds-visits-met c =
    let d = c.args.design.now in
    rw (c.met-met.ensures, c.visits-visits.ensures) (met_visited d.modules.now (top_of d.walk.now) d.walk.now c.requires.walk c.args.i c.requires.within)

pub returns-clause-module_is : goal.returns-clause-module_is
returns-clause-module_is c =
    let d = c.args.design.now in
    rw (c.met-met.ensures, c.visits-visits.ensures) (met_module d.modules.now (top_of d.walk.now) d.walk.now c.requires.walk c.args.i c.requires.within)

pub returns-clause-instance_is : goal.returns-clause-instance_is
returns-clause-instance_is c =
    let d = c.args.design.now in
    rw c.met-met.ensures (met_is d.modules.now (top_of d.walk.now) d.walk.now c.requires.walk c.args.i c.requires.within).instance

pub returns-clause-module_within : goal.returns-clause-module_within
returns-clause-module_within c =
    let d = c.args.design.now in
    rw (c.met-met.ensures, c.visits-visits.ensures) (met_module_within d.modules.now (top_of d.walk.now) d.walk.now c.requires.walk c.args.i c.requires.within)

pub returns-clause-instance_within : goal.returns-clause-instance_within
returns-clause-instance_within c =
    let d = c.args.design.now in
    rw (c.met-met.ensures, c.visits-visits.ensures) (met_within d.modules.now (top_of d.walk.now) d.walk.now c.requires.walk c.args.i c.requires.within)
