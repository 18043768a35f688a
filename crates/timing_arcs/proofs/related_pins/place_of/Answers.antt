use Rattle.std.proofs.Common.{sym, ◌∙◌}
use Rattle.timing_arcs.specs.PinModel.{is_input}
use Rattle.timing_arcs.specs.CellReading.{entries_of, library_of}
use Rattle.timing_arcs.specs.RelatedPins.{input_pin, other_pin}
use Rattle.timing_arcs.proofs.PlaceLemmas.{pin_known, pin_unknown, place_is, unknown_sole}
use Rattle.timing_arcs.proofs.related_pins.place_of.Goals as goal

pub returns-in_default-clause-err : goal.returns-in_default-clause-err
returns-in_default-clause-err c =
    let cell = c.args.cell.now in
    unknown_sole (entries_of cell) c.args.name.now (pin_unknown cell.tree cell.names cell.groups c.args.name.now c.in_default.ensures.reading.even c.in_default.ensures.absent)

pub returns-then-is_input-clause-ok : goal.returns-then-is_input-clause-ok
returns-then-is_input-clause-ok c =
    let cell = c.args.cell.now in
    let its = c.in-Some.ensures.reading in
    input_pin c.in-Some.ensures.found (pin_known cell.tree cell.names cell.groups c.args.name.now c.in-Some.place its.even c.in-Some.ensures.found)
    (place_is is_input (library_of cell) cell.tree cell.names cell.groups cell.pins c.args.name.now c.in-Some.place c.pin.result.now c.in-Some.ensures.distinct its.even its.pins c.in-Some.ensures.found c.pin.ensures.pin
    ∙ sym c.is_input.ensures ∙ c.if-is_input.true)

pub returns-else-is_input-clause-ok : goal.returns-else-is_input-clause-ok
returns-else-is_input-clause-ok c =
    let cell = c.args.cell.now in
    let its = c.in-Some.ensures.reading in
    other_pin (pin_known cell.tree cell.names cell.groups c.args.name.now c.in-Some.place its.even c.in-Some.ensures.found)
    (place_is is_input (library_of cell) cell.tree cell.names cell.groups cell.pins c.args.name.now c.in-Some.place c.pin.result.now c.in-Some.ensures.distinct its.even its.pins c.in-Some.ensures.found c.pin.ensures.pin
    ∙ sym c.is_input.ensures ∙ c.if-is_input.false)
