use Rattle.std.proofs.Common.{rules, ◌≡◌, ◌++◌, ◌∷◌, [], sym, subst}
use Rattle.timing_arcs.specs.PinTable.{entries_in}
use Rattle.timing_arcs.specs.RelatedPins.{IsPlaceOf, ArePlaces, no_places_memory}
use Rattle.timing_arcs.proofs.PlaceLemmas.{placed_more, passed_more}
use Rattle.timing_arcs.proofs.related_pins.add_place.Goals as goal

pub returns-in-Ok-None-clause-ok : goal.returns-in-Ok-None-clause-ok
returns-in-Ok-None-clause-ok c = λ done are.
    let entries = entries_in c.args.cell.now.tree c.args.cell.now.names c.args.cell.now.groups in
    passed_more entries c.args.cell.now.names done c.args.places.now.items c.args.name.now are (subst (IsPlaceOf entries c.args.cell.now.names c.args.name.now) c.in-Ok-None.field-0-is c.in-Ok-None.ensures.ok)

pub returns-in-Ok-clause-ok : goal.returns-in-Ok-clause-ok
returns-in-Ok-clause-ok c = λ done are.
    let entries = entries_in c.args.cell.now.tree c.args.cell.now.names c.args.cell.now.groups in
    let pushed : c.push.new.self.items ≡ c.args.places.now.items ++ c.in-Ok-Some.place ∷ [] = search rules in
    subst (ArePlaces entries c.args.cell.now.names (done ++ c.args.name.now ∷ [])) (sym pushed)
    (placed_more entries c.args.cell.now.names done c.args.places.now.items c.args.name.now c.in-Ok-Some.place are (subst (IsPlaceOf entries c.args.cell.now.names c.args.name.now) c.in-Ok-Some.field-0-is c.in-Ok-Some.ensures.ok))

pub returns-in-Err-push-clause-err : goal.returns-in-Err-push-clause-err
returns-in-Err-push-clause-err c = no_places_memory
