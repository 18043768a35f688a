use Rattle.netlist_link.proofs.PinNames.{pins_differ}
use Rattle.netlist_link.proofs.cell_pins.pins_of.Goals as goal

pub returns-clause-distinct : goal.returns-clause-distinct
returns-clause-distinct g c = pins_differ g.C.CornerSet.COUNT c.args.cell.now c.in_ok-directions.ensures.whole
