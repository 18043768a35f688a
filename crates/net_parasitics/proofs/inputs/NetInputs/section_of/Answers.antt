use Rattle.std.proofs.Common.{◌≡◌, ap, subst, ◌∙◌}
use Rattle.std.specs.Prelude.{slice_get, Some}
use Rattle.netlist_link.specs.FlatNetlist.{net_at}
use Rattle.spef_nets.specs.NetElements.{net_names}
use Rattle.net_parasitics.specs.Inputs.{Inputs}
use Rattle.net_parasitics.proofs.inputs.NetInputs.section_of.Goals as goal

-- src/nets.rt
pub returns-clause-found : goal.returns-clause-found
returns-clause-found g c =
    subst (λ (i : Inputs). slice_get (net_names i.sections) c.in_ok-place.place ≡ Some (net_at i.netlist c.args.net).text) c.self.view_is
    (c.in_ok-place.ensures.found ∙ ap Some c.net_text.ensures)
