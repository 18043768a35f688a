use Rattle.token_texts.specs.Blanks.{is_blank}
use Rattle.token_texts.specs.Pieces.{pieces_between}
use Rattle.timing_arcs.specs.PinTable.{entries_in}
use Rattle.timing_arcs.specs.RelatedPins.{IsUnrelated}
use Rattle.timing_arcs.proofs.Refusals.{handed_on}
use Rattle.timing_arcs.proofs.PlaceLemmas.{none_so, one_more_so, all_so, unrelated_so}
use Rattle.timing_arcs.proofs.related_pins.places_in.Goals as goal

pub loop-name-init : goal.loop-name-init
loop-name-init c = none_so (entries_in c.args.cell.now.tree c.args.cell.now.names c.args.cell.now.groups) c.args.cell.now.names (pieces_between is_blank c.args.text.now) c.new-places.result.items c.new-places.ensures.items

pub returns-in_err-add_place-clause-err : goal.returns-in_err-add_place-clause-err
returns-in_err-add_place-clause-err c =
    let entries = entries_in c.args.cell.now.tree c.args.cell.now.names c.args.cell.now.groups in
    handed_on c.from_residual.result c.in_err-add_place.field-0.0 (IsUnrelated entries (pieces_between is_blank c.args.text.now)) c.from_residual.ensures.1
    (unrelated_so entries c.args.cell.now.names (pieces_between is_blank c.args.text.now) (pieces_between is_blank c.loop-name.rest.now) c.in-Some.name.now (pieces_between is_blank c.in-Some.others.now)
    c.loop-name.places.items c.in_err-add_place.field-0.0 c.in-Some.ensures.some c.loop-name.invariant c.in_err-add_place.ensures.err)

pub loop-name-preserved : goal.loop-name-preserved
loop-name-preserved c =
    let entries = entries_in c.args.cell.now.tree c.args.cell.now.names c.args.cell.now.groups in
    one_more_so entries c.args.cell.now.names (pieces_between is_blank c.args.text.now) (pieces_between is_blank c.loop-name.rest.now) c.in-Some.name.now (pieces_between is_blank c.in-Some.others.now)
    c.loop-name.places.items c.add_place.new.places.items c.in-Some.ensures.some c.loop-name.invariant c.in_ok-add_place.ensures.ok

pub returns-clause-ok : goal.returns-clause-ok
returns-clause-ok c =
    let entries = entries_in c.args.cell.now.tree c.args.cell.now.names c.args.cell.now.groups in
    all_so entries c.args.cell.now.names (pieces_between is_blank c.args.text.now) (pieces_between is_blank c.loop-name.rest.now) c.loop-name.places.items c.in_default.ensures.none c.loop-name.invariant
