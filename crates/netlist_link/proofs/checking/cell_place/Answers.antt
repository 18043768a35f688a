-- The number of what an instance is of leads to the place of its cell.
use Rattle.netlist_link.proofs.checking.cell_place.Goals as goal

pub number-requires : goal.number-requires
number-requires c =
    let is = c.requires.design.is in
    record { modules = c.args.design.now.modules.now; are = is.instance_cells; within = c.place_of-m.ensures.module_within; place = c.place_of-m.ensures.instance_within }
