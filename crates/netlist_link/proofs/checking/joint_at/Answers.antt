use Rattle.std.proofs.Common.{◌≡◌, ℕ, refl, sym, ap, ◌∙◌, subst}
use Rattle.std.specs.Prelude.{Some, None, IfSome}
use Rattle.std.specs.List.{position_or_len}
use Rattle.std.specs.Str.{bytes_eq}
use Rattle.verilog_netlist.specs.NetModules.{module_at}
use Rattle.netlist_link.specs.FlatPins.{pins_of}
use Rattle.netlist_link.specs.LinkEnds.{joint_of_name, joint_of_pin, port_named, pin_named}
use Rattle.netlist_link.specs.Designs.{has_port_name}
use Rattle.netlist_link.specs.PathTables.{top_of}
use Rattle.netlist_link.proofs.MetPlaces.{kept_met, met_lower, met_cell, lower_visited, lower_module, lower_within}
use Rattle.netlist_link.proofs.checking.joint_at.Goals as goal

pub port_at-requires-clause-within : goal.port_at-requires-clause-within
port_at-requires-clause-within c =
    let d = c.args.design.now in
    lower_visited d.modules.now (top_of d.walk.now) d.walk.now c.requires.sound.walk c.args.i c.requires.within c.in-Some.visit
    (rw (sym c.met-met.ensures) c.in-Some.is)

pub port_at-requires-clause-module_within : goal.port_at-requires-clause-module_within
port_at-requires-clause-module_within c =
    let d = c.args.design.now in
    lower_within d.modules.now (top_of d.walk.now) d.walk.now c.requires.sound.walk c.args.i c.requires.within c.in-Some.visit
    (rw (sym c.met-met.ensures) c.in-Some.is)

pub returns-in-Some-clause-joint : goal.returns-in-Some-clause-joint
returns-in-Some-clause-joint c = λ cells are distinct place.
    let d = c.args.design.now in
    let lower : (kept_met d.walk.now c.args.i).lower ≡ Some c.in-Some.visit = rw (sym c.met-met.ensures) c.in-Some.is in
    let is = met_lower d.modules.now (top_of d.walk.now) d.walk.now c.requires.sound.walk c.args.i c.requires.within c.in-Some.visit lower in
    let m_is = lower_module d.modules.now (top_of d.walk.now) d.walk.now c.requires.sound.walk c.args.i c.requires.within c.in-Some.visit lower in
    c.port_at.ensures.joint ∙ ap (λ (m : ℕ). joint_of_name (port_named (module_at d.modules.now m) c.args.port.now)) m_is ∙ rw is.2 refl

pub returns-in-Some-clause-number : goal.returns-in-Some-clause-number
returns-in-Some-clause-number c = λ cells are distinct place.
    let d = c.args.design.now in
    let lower : (kept_met d.walk.now c.args.i).lower ≡ Some c.in-Some.visit = rw (sym c.met-met.ensures) c.in-Some.is in
    let is = met_lower d.modules.now (top_of d.walk.now) d.walk.now c.requires.sound.walk c.args.i c.requires.within c.in-Some.visit lower in
    let m_is = lower_module d.modules.now (top_of d.walk.now) d.walk.now c.requires.sound.walk c.args.i c.requires.within c.in-Some.visit lower in
    rw is.2 (subst (λ (m : ℕ). IfSome c.port_at.result (λ joint. joint.number ≡ position_or_len (has_port_name c.args.port.now) (module_at d.modules.now m).names))
    m_is c.port_at.ensures.place)

pub returns-in-None-clause-joint : goal.returns-in-None-clause-joint
returns-in-None-clause-joint c = λ cells are distinct place.
    let d = c.args.design.now in
    let lower : (kept_met d.walk.now c.args.i).lower ≡ None = rw (sym c.met-met.ensures) c.in-None.is in
    let is = met_cell d.modules.now (top_of d.walk.now) d.walk.now c.requires.sound.walk c.args.i c.requires.within lower in
    c.pin_at.ensures.joint cells are (distinct c.args.cell)
    ∙ ap (λ (cell : ℕ). joint_of_pin (pin_named (pins_of cells cell) c.args.port.now)) (place is) ∙ rw is refl

pub returns-in-None-clause-number : goal.returns-in-None-clause-number
returns-in-None-clause-number c = λ cells are distinct place.
    let d = c.args.design.now in
    let lower : (kept_met d.walk.now c.args.i).lower ≡ None = rw (sym c.met-met.ensures) c.in-None.is in
    let is = met_cell d.modules.now (top_of d.walk.now) d.walk.now c.requires.sound.walk c.args.i c.requires.within lower in
    rw is (subst (λ (cell : ℕ). IfSome c.pin_at.result (λ joint. joint.number ≡ position_or_len (λ pin. bytes_eq c.args.port.now pin.name) (pins_of cells cell)))
    (place is) (c.pin_at.ensures.place cells are (distinct c.args.cell)))

pub pin_at-requires-clause-within : goal.pin_at-requires-clause-within
pin_at-requires-clause-within c =
    let d = c.args.design.now in
    let lower : (kept_met d.walk.now c.args.i).lower ≡ None = rw (sym c.met-met.ensures) c.in-None.is in
    c.requires.cell (met_cell d.modules.now (top_of d.walk.now) d.walk.now c.requires.sound.walk c.args.i c.requires.within lower)
