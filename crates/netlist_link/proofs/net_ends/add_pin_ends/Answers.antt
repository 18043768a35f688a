use Rattle.std.proofs.Common.{◌≡◌, ℕ, ◌+◌, ◌<◌, ◌≤◌, List, length, get_or, None, sym, ap, ◌∙◌, arith}
use Rattle.std.proofs.lemmas.List.{get_or_read}
use Rattle.cell_models.specs.declared.cell.Direction.{Direction}
use Rattle.cell_models.specs.declared.cell.Direction.TheVariants as direction
use Rattle.netlist_link.specs.InstanceTables.{row_at, no_row}
use Rattle.netlist_link.specs.KeptEnds.{flat_ends}
use Rattle.netlist_link.specs.declared.cell_pins.CellPins.{CellPins}
use Rattle.netlist_link.specs.declared.instances.InstanceRow.{InstanceRow}
use Rattle.netlist_link.proofs.NetlistReading.{pins_fit}
use Rattle.netlist_link.proofs.PinRows.{cell_below, directions_many, pins_step, pins_done}
use Rattle.netlist_link.proofs.net_ends.add_pin_ends.Goals as goal

pub bounds-design-row : goal.bounds-design-row
bounds-design-row c =
    let d = c.args.design.now in
    let kept = c.args.instances.now in
    let i = c.args.i in
    let row = get_or_read kept.rows.items i c.index-row.result.now c.requires.within c.index-row.ensures no_row in
    let cell = ap (λ (r : InstanceRow). r.cell) row in
    let below = cell_below d kept c.requires.cells i c.requires.within in
    omega arith

pub index-net-requires : goal.index-net-requires
index-net-requires c =
    let d = c.args.design.now in
    let kept = c.args.instances.now in
    let i = c.args.i in
    let row = get_or_read kept.rows.items i c.index-row.result.now c.requires.within c.index-row.ensures no_row in
    let cell = ap (λ (r : InstanceRow). r.cell) row in
    let first = ap (λ (r : InstanceRow). r.first_pin) row in
    let x = c.index-design-row.result in
    let is : x ≡ get_or d.pins.now (row_at kept i).cell x = c.index-design-row.is ∙ ap (λ (k : ℕ). get_or d.pins.now k x) cell in
    let many = directions_many d kept c.requires.cells i c.requires.within x is in
    let value : c.directions-directions.result.now ≡ x.directions.items =
    c.directions-directions.ensures ∙ ap (λ (p : CellPins). p.directions.items) (sym c.index-design-row.is) in
    let as_long = ap length value in
    let fit = pins_fit kept c.requires.cells.tables i c.requires.within in
    let test = c.loop-j-test.true in
    let ok = kept.pin_nets.ok in
    omega arith

pub loop-j-preserved : goal.loop-j-preserved
loop-j-preserved c =
    let d = c.args.design.now in
    let kept = c.args.instances.now in
    let i = c.args.i in
    let row = get_or_read kept.rows.items i c.index-row.result.now c.requires.within c.index-row.ensures no_row in
    let cell = ap (λ (r : InstanceRow). r.cell) row in
    let first = ap (λ (r : InstanceRow). r.first_pin) row in
    let x = c.index-design-row.result in
    let is : x ≡ get_or d.pins.now (row_at kept i).cell x = c.index-design-row.is ∙ ap (λ (k : ℕ). get_or d.pins.now k x) cell in
    let many = directions_many d kept c.requires.cells i c.requires.within x is in
    let value : c.directions-directions.result.now ≡ x.directions.items =
    c.directions-directions.ensures ∙ ap (λ (p : CellPins). p.directions.items) (sym c.index-design-row.is) in
    let as_long = ap length value in
    let fit = pins_fit kept c.requires.cells.tables i c.requires.within in
    let j = c.loop-j.j in
    let less : j < length x.directions.items = (let test = c.loop-j-test.true in omega arith) in
    let net = get_or_read kept.pin_nets.items (c.index-row.result.now.first_pin + j) c.index-net.result.now (omega arith) c.index-net.ensures None
    ∙ ap (λ (k : ℕ). get_or kept.pin_nets.items (k + j) None) first in
    record {
      driving = (λ cells test are selects.
          pins_step d kept c.requires.cells i c.requires.within x is cells are test (flat_ends c.args.driving.now.items) (flat_ends c.loop-j.driving.items)
          (flat_ends c.add_pin_end.new.driving.items) j (get_or c.directions-directions.result.now j direction.Input) direction.Input c.index-net.result.now less
          (ap (λ (l : List Direction). get_or l j direction.Input) value) net (c.loop-j.invariant.driving cells test are selects)
          (c.in_ok-add_pin_end.ensures.driving test selects));
      driven = (λ cells test are selects.
          pins_step d kept c.requires.cells i c.requires.within x is cells are test (flat_ends c.args.driven.now.items) (flat_ends c.loop-j.driven.items)
          (flat_ends c.add_pin_end.new.driven.items) j (get_or c.directions-directions.result.now j direction.Input) direction.Input c.index-net.result.now less
          (ap (λ (l : List Direction). get_or l j direction.Input) value) net (c.loop-j.invariant.driven cells test are selects)
          (c.in_ok-add_pin_end.ensures.driven test selects));
    }

pub returns-clause-driving : goal.returns-clause-driving
returns-clause-driving c = λ cells test are selects.
    let d = c.args.design.now in
    let kept = c.args.instances.now in
    let i = c.args.i in
    let row = get_or_read kept.rows.items i c.index-row.result.now c.requires.within c.index-row.ensures no_row in
    let cell = ap (λ (r : InstanceRow). r.cell) row in
    let first = ap (λ (r : InstanceRow). r.first_pin) row in
    let x = c.index-design-row.result in
    let is : x ≡ get_or d.pins.now (row_at kept i).cell x = c.index-design-row.is ∙ ap (λ (k : ℕ). get_or d.pins.now k x) cell in
    let many = directions_many d kept c.requires.cells i c.requires.within x is in
    let value : c.directions-directions.result.now ≡ x.directions.items =
    c.directions-directions.ensures ∙ ap (λ (p : CellPins). p.directions.items) (sym c.index-design-row.is) in
    let as_long = ap length value in
    let fit = pins_fit kept c.requires.cells.tables i c.requires.within in
    let j = c.loop-j.j in
    let past : length x.directions.items ≤ j = (let test = c.loop-j-test.false in omega arith) in
    pins_done d kept c.requires.cells i c.requires.within x is cells are test (flat_ends c.args.driving.now.items) (flat_ends c.loop-j.driving.items) j past
    (c.loop-j.invariant.driving cells test are selects)

pub returns-clause-driven : goal.returns-clause-driven
returns-clause-driven c = λ cells test are selects.
    let d = c.args.design.now in
    let kept = c.args.instances.now in
    let i = c.args.i in
    let row = get_or_read kept.rows.items i c.index-row.result.now c.requires.within c.index-row.ensures no_row in
    let cell = ap (λ (r : InstanceRow). r.cell) row in
    let first = ap (λ (r : InstanceRow). r.first_pin) row in
    let x = c.index-design-row.result in
    let is : x ≡ get_or d.pins.now (row_at kept i).cell x = c.index-design-row.is ∙ ap (λ (k : ℕ). get_or d.pins.now k x) cell in
    let many = directions_many d kept c.requires.cells i c.requires.within x is in
    let value : c.directions-directions.result.now ≡ x.directions.items =
    c.directions-directions.ensures ∙ ap (λ (p : CellPins). p.directions.items) (sym c.index-design-row.is) in
    let as_long = ap length value in
    let fit = pins_fit kept c.requires.cells.tables i c.requires.within in
    let j = c.loop-j.j in
    let past : length x.directions.items ≤ j = (let test = c.loop-j-test.false in omega arith) in
    pins_done d kept c.requires.cells i c.requires.within x is cells are test (flat_ends c.args.driven.now.items) (flat_ends c.loop-j.driven.items) j past
    (c.loop-j.invariant.driven cells test are selects)
