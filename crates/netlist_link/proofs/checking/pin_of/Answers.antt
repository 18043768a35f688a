use Rattle.std.proofs.Common.{[], Bool, ◌≡◌, ◌<◌, List, length, sym, ap, ◌∙◌, subst, arith}
use Rattle.std.specs.Prelude.{find, slice_index_or, Some, None}
use Rattle.std.specs.Str.{bytes_eq}
use Rattle.std.proofs.lemmas.List.{length-map, get_or-map}
use Rattle.cell_models.specs.declared.cell.Direction.{Direction}
use Rattle.cell_models.specs.declared.cell.Pin.{Pin}
use Rattle.netlist_link.specs.LinkEnds.{joint_of_pin, is_end}
use Rattle.netlist_link.specs.Designs.{joint_in}
use Rattle.netlist_link.specs.JointTables.{pin_names}
use Rattle.netlist_link.specs.PortTables.{IsFoundBy, IsPinNamed}
use Rattle.netlist_link.proofs.Joining.{find_at, find_no, place_at, no_pin, pin_found, pin_passes, pin_fails}
use Rattle.netlist_link.proofs.checking.pin_of.Goals as goal

pub bounds-directions-number : goal.bounds-directions-number
bounds-directions-number c =
    let pins = c.requires.pins in
    let found = pin_found pins c.args.pins.now c.requires.are c.args.name c.find.result c.find.ensures in
    let within = (subst (IsFoundBy (IsPinNamed (pin_names pins)) (length (pin_names pins)) c.args.name.now) c.in_ok-number.was found).0 in
    let names = length-map pins (λ (pin : Pin). pin.name) in
    let many = ap length c.requires.are.directions ∙ length-map pins (λ (pin : Pin). pin.direction) in
    let value = ap length c.as_slice-directions.ensures.value in
    omega arith

pub returns-in_err-number-clause-joint : goal.returns-in_err-number-clause-joint
returns-in_err-number-clause-joint c = λ cell are distinct.
    let name = c.args.name.now in
    let names = length-map cell (λ (pin : Pin). pin.name) in
    let none : IsFoundBy (IsPinNamed (pin_names cell)) (length (pin_names cell)) name None =
    subst (IsFoundBy (IsPinNamed (pin_names cell)) (length (pin_names cell)) name) c.in_err-number.was
    (pin_found cell c.args.pins.now are c.args.name c.find.result c.find.ensures) in
    ap joint_in c.from_residual.ensures
    ∙ sym (ap joint_of_pin (find_no (λ pin. bytes_eq name pin.name) cell no_pin (λ i less. pin_fails name cell i no_pin less (none i (omega arith)))))

pub returns-clause-named : goal.returns-clause-named
returns-clause-named c = λ cell are.
    let names = length-map cell (λ (pin : Pin). pin.name) in
    let found = (subst (IsFoundBy (IsPinNamed (pin_names cell)) (length (pin_names cell)) c.args.name.now) c.in_ok-number.was
    (pin_found cell c.args.pins.now are c.args.name c.find.result c.find.ensures)).0 in
    omega arith

pub returns-clause-joint : goal.returns-clause-joint
returns-clause-joint c = λ cell are distinct.
    let name = c.args.name.now in
    let number = c.in_ok-number.number in
    let names = length-map cell (λ (pin : Pin). pin.name) in
    let found : IsFoundBy (IsPinNamed (pin_names cell)) (length (pin_names cell)) name (Some number) =
    subst (IsFoundBy (IsPinNamed (pin_names cell)) (length (pin_names cell)) name) c.in_ok-number.was
    (pin_found cell c.args.pins.now are c.args.name c.find.result c.find.ensures) in
    let within : number < length cell = (let below = found.0 in omega arith) in
    let is : find (λ pin. bytes_eq name pin.name) cell ≡ Some (slice_index_or cell number no_pin) =
    find_at (λ pin. bytes_eq name pin.name) cell number no_pin within (pin_passes name cell number no_pin within found.1)
    (λ i less. pin_fails name cell i no_pin (omega arith) (λ its. distinct i number [] less found.0 (its.text ∙ sym found.1.text))) in
    let direction : slice_index_or c.as_slice-directions.result.now number Direction.Input ≡ (slice_index_or cell number no_pin).direction =
    ap (λ (l : List Direction). slice_index_or l number Direction.Input) (c.as_slice-directions.ensures.value ∙ are.directions)
    ∙ get_or-map (λ (pin : Pin). pin.direction) cell number no_pin Direction.Input within in
    ap (λ (taken : Bool). Some (record { width = 1; is_taken = taken })) (c.is_end.ensures ∙ ap is_end direction) ∙ sym (ap joint_of_pin is)

pub returns-clause-place : goal.returns-clause-place
returns-clause-place c = λ cell are distinct.
    let name = c.args.name.now in
    let number = c.in_ok-number.number in
    let names = length-map cell (λ (pin : Pin). pin.name) in
    let found : IsFoundBy (IsPinNamed (pin_names cell)) (length (pin_names cell)) name (Some number) =
    subst (IsFoundBy (IsPinNamed (pin_names cell)) (length (pin_names cell)) name) c.in_ok-number.was
    (pin_found cell c.args.pins.now are c.args.name c.find.result c.find.ensures) in
    let within : number < length cell = (let below = found.0 in omega arith) in
    place_at (λ pin. bytes_eq name pin.name) cell number no_pin within (pin_passes name cell number no_pin within found.1)
    (λ i less. pin_fails name cell i no_pin (omega arith) (λ its. distinct i number [] less found.0 (its.text ∙ sym found.1.text)))
