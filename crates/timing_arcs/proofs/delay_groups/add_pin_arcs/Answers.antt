use Rattle.std.proofs.Common.{sym, ap, ◌∙◌}
use Rattle.timing_arcs.specs.PinModel.{is_output}
use Rattle.timing_arcs.specs.CellReading.{entries_of, library_of}
use Rattle.timing_arcs.proofs.PinLemmas.{entry_pin}
use Rattle.timing_arcs.proofs.AddingLemmas.{added_output, refused_output, added_other}
use Rattle.timing_arcs.proofs.delay_groups.add_pin_arcs.Goals as goal

pub returns-then-is_output-clause-ok : goal.returns-then-is_output-clause-ok
returns-then-is_output-clause-ok c = λ entry e.
    let cell = c.args.cell.now in
    let is = entry_pin (library_of cell) (entries_of cell) cell.pins c.args.to entry c.pin.result.now c.pin.ensures.reading.pins e c.pin.ensures.pin in
    added_output c.add_groups.result (library_of cell) cell.names (entries_of cell) entry c.args.arcs.now.items c.add_groups.new.arcs.items
    (ap is_output is.direction ∙ sym c.is_output.ensures ∙ c.if-is_output.true) (c.add_groups.ensures.ok entry e)

pub returns-then-is_output-clause-refused : goal.returns-then-is_output-clause-refused
returns-then-is_output-clause-refused c = λ entry e.
    let cell = c.args.cell.now in
    let is = entry_pin (library_of cell) (entries_of cell) cell.pins c.args.to entry c.pin.result.now c.pin.ensures.reading.pins e c.pin.ensures.pin in
    refused_output c.add_groups.result (library_of cell) (entries_of cell) entry
    (ap is_output is.direction ∙ sym c.is_output.ensures ∙ c.if-is_output.true) (c.add_groups.ensures.refused entry e)

pub returns-else-is_output-clause-ok : goal.returns-else-is_output-clause-ok
returns-else-is_output-clause-ok c = λ entry e.
    let cell = c.args.cell.now in
    let is = entry_pin (library_of cell) (entries_of cell) cell.pins c.args.to entry c.pin.result.now c.pin.ensures.reading.pins e c.pin.ensures.pin in
    added_other (library_of cell) cell.names (entries_of cell) entry c.args.arcs.now.items
    (ap is_output is.direction ∙ sym c.is_output.ensures ∙ c.if-is_output.false)
