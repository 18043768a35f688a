-- The place of a name more goes behind those before.
use Rattle.netlist_link.proofs.CellPlacing.{places_more}
use Rattle.netlist_link.proofs.cell_places.cell_places.Goals as goal

pub loop-n-preserved : goal.loop-n-preserved
loop-n-preserved c = places_more c.args.cell_names.now c.args.names.now c.loop-n.n c.loop-n.places.items c.push.new.items.items c.text.result.now
    c.place_of_cell.result c.loop-n.invariant c.text.ensures.text c.place_of_cell.ensures c.in_ok-push.ensures.ok
