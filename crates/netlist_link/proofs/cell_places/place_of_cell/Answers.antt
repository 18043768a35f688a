use Rattle.std.proofs.lemmas.Option.{slice_get_within}
use Rattle.netlist_link.proofs.Joining.{text_place}
use Rattle.netlist_link.proofs.cell_places.place_of_cell.Goals as goal

pub returns-in-Some : goal.returns-in-Some
returns-in-Some c = λ held. record {
  is = text_place c.args.cell_names.now c.args.name.now c.in-Some.id.0 c.find.ensures.distinct c.in-Some.ensures.found;
  below = slice_get_within c.args.cell_names.now c.in-Some.id.0 c.args.name.now c.in-Some.ensures.found;
}
