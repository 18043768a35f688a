use Rattle.std.proofs.Common.{◌≡◌, ◌≤◌, get_or, ap, sym, subst, ◌∙◌, map}
use Rattle.delay_units.specs.Bounds.{most_farads}
use Rattle.name_table.specs.Names.{AreDistinct}
use Rattle.cell_models.specs.declared.cell.Pin.{Pin}
use Rattle.netlist_link.specs.FlatNetlist.{instance_at}
use Rattle.net_parasitics.specs.Inputs.{Inputs}
use Rattle.net_parasitics.specs.NetPins.{cell_pins, no_pin, pin_at}
use Rattle.net_parasitics.proofs.CellPins.{pin_is, pin_is_first, names_differ, same_name, small_pin}
use Rattle.net_parasitics.proofs.inputs.NetInputs.pin.Goals as goal

-- src/pin_names.rt
pub returns-clause-most : goal.returns-clause-most
returns-clause-most g c =
    let number = g.C.CornerSet.number_of c.args.corner in
    subst (λ (pin : Pin). pin.cap.0 ≤ most_farads) (sym (pin_is c.self.inside.linked.now.cells number c.cell_of.result c.args.pin c.set-models.result.now c.pin.result.now c.set-models.ensures c.pin.ensures))
    (small_pin c.self.inside.linked.now.cells number c.cell_of.result c.args.pin c.self.invariant.small_pins)

pub returns-clause-apart : goal.returns-clause-apart
returns-clause-apart g c =
    subst (λ (i : Inputs). AreDistinct (map (λ (pin : Pin). pin.name) (cell_pins i.cells 0 (instance_at i.netlist c.args.instance).cell))) c.self.view_is
    (subst (λ cell. AreDistinct (map (λ (pin : Pin). pin.name) (cell_pins c.self.inside.linked.now.cells 0 cell))) c.cell_of.ensures
    (names_differ c.self.inside.linked.now.cells g.C.CornerSet.COUNT c.cell_of.result c.set-models.result.now c.set-models.ensures c.pin_count.ensures.whole))

pub returns-clause-name : goal.returns-clause-name
returns-clause-name g c =
    let first = pin_is_first c.self.inside.linked.now.cells c.cell_of.result c.args.pin c.set-models.result.now c.set-models.ensures in
    subst (λ (i : Inputs). c.pin.result.now.name ≡ (pin_at i.netlist i.cells 0 c.args.instance c.args.pin).name) c.self.view_is
    (same_name c.set-models.result.now g.C.CornerSet.COUNT (g.C.CornerSet.number_of c.args.corner) c.args.pin c.pin.result.now c.pin_count.ensures.whole c.pin.ensures
    ∙ ap (λ (pin : Pin). pin.name) (sym first)
    ∙ ap (λ cell. (get_or (cell_pins c.self.inside.linked.now.cells 0 cell) c.args.pin no_pin).name) c.cell_of.ensures)
