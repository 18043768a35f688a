use Rattle.std.proofs.Common.{◌≡◌, ℕ, length, true, sym, ap, ◌∙◌, subst}
use Rattle.std.specs.Prelude.{find, slice_index_or, Some, None}
use Rattle.verilog_netlist.specs.ModuleNames.{no_name}
use Rattle.verilog_netlist.specs.NetModules.{module_at}
use Rattle.netlist_link.specs.LinkEnds.{joint_of_name}
use Rattle.netlist_link.specs.Designs.{has_port_name, joint_in}
use Rattle.netlist_link.specs.PortTables.{IsFoundBy, IsPortNamed}
use Rattle.netlist_link.proofs.Joining.{find_at, find_no, place_at, port_passes, port_fails}
use Rattle.netlist_link.proofs.checking.port_of.Goals as goal

pub returns-in_err-number-clause-joint : goal.returns-in_err-number-clause-joint
returns-in_err-number-clause-joint c =
    let names = (module_at c.args.modules.now c.args.m).names in
    let name = c.args.name.now in
    let none : IsFoundBy (IsPortNamed names) (length names) name None =
    subst (IsFoundBy (IsPortNamed names) (length names) name) (sym c.find.ensures ∙ c.in_err-number.was) (c.requires.ports c.args.name) in
    ap joint_in c.from_residual.ensures
    ∙ sym (ap joint_of_name (find_no (has_port_name name) names no_name (λ i less. port_fails name names i (none i less))))

pub width-requires-clause-place : goal.width-requires-clause-place
width-requires-clause-place c =
    let names = (module_at c.args.modules.now c.args.m).names in
    let name = c.args.name.now in
    (subst (IsFoundBy (IsPortNamed names) (length names) name) (sym c.find.ensures ∙ c.in_ok-number.was) (c.requires.ports c.args.name)).0

pub returns-clause-number : goal.returns-clause-number
returns-clause-number c =
    let names = (module_at c.args.modules.now c.args.m).names in
    let name = c.args.name.now in
    (subst (IsFoundBy (IsPortNamed names) (length names) name) (sym c.find.ensures ∙ c.in_ok-number.was) (c.requires.ports c.args.name)).0

pub returns-clause-named : goal.returns-clause-named
returns-clause-named c =
    let names = (module_at c.args.modules.now c.args.m).names in
    let name = c.args.name.now in
    (subst (IsFoundBy (IsPortNamed names) (length names) name) (sym c.find.ensures ∙ c.in_ok-number.was) (c.requires.ports c.args.name)).1

pub returns-clause-joint : goal.returns-clause-joint
returns-clause-joint c =
    let names = (module_at c.args.modules.now c.args.m).names in
    let name = c.args.name.now in
    let number = c.in_ok-number.number in
    let found : IsFoundBy (IsPortNamed names) (length names) name (Some number) =
    subst (IsFoundBy (IsPortNamed names) (length names) name) (sym c.find.ensures ∙ c.in_ok-number.was) (c.requires.ports c.args.name) in
    let is : find (has_port_name name) names ≡ Some (slice_index_or names number no_name) =
    find_at (has_port_name name) names number no_name found.0 (port_passes name names number found.1)
    (λ i less. port_fails name names i (λ its. c.sound.ensures.names c.args.m c.requires.within i number less found.0 (its.text ∙ sym found.1.text))) in
    ap (λ (w : ℕ). Some (record { width = w; is_taken = true })) c.width.ensures.width ∙ sym (ap joint_of_name is)

pub returns-clause-place : goal.returns-clause-place
returns-clause-place c =
    let names = (module_at c.args.modules.now c.args.m).names in
    let name = c.args.name.now in
    let number = c.in_ok-number.number in
    let found : IsFoundBy (IsPortNamed names) (length names) name (Some number) =
    subst (IsFoundBy (IsPortNamed names) (length names) name) (sym c.find.ensures ∙ c.in_ok-number.was) (c.requires.ports c.args.name) in
    place_at (has_port_name name) names number no_name found.0 (port_passes name names number found.1)
    (λ i less. port_fails name names i (λ its. c.sound.ensures.names c.args.m c.requires.within i number less found.0 (its.text ∙ sym found.1.text)))
