use Rattle.std.proofs.Common.{◌≡◌, ◌<◌, length, sym, refl, subst}
use Rattle.std.specs.Prelude.{slice_get, Some}
use Rattle.netlist_link.specs.FlatNetlist.{net_at}
use Rattle.spef_nets.specs.NetElements.{net_names}
use Rattle.net_parasitics.specs.Inputs.{Inputs}
use Rattle.net_parasitics.specs.NetSections.{IsSectionOf, no_section}
use Rattle.net_parasitics.proofs.MissingNets.{written_there}
use Rattle.net_parasitics.proofs.TreeTimes.{no_work, unwritten_net}
use Rattle.net_parasitics.proofs.inputs.NetInputs.put_wired.Goals as goal

-- src/nets.rt
pub get-section-requires : goal.get-section-requires
get-section-requires g c = subst (λ (i : Inputs). c.in-Some.place < length i.sections) (sym c.self.view_is) c.in-Some.ensures.within

pub put_written-requires-clause-written : goal.put_written-requires-clause-written
put_written-requires-clause-written g c =
    subst (λ (i : Inputs). IsSectionOf i.sections (net_at i.netlist c.args.net).text c.get-section.result) c.self.view_is
    (written_there c.self.inside.sections.now (net_at c.self.inside.linked.now.netlist c.args.net).text (net_at c.self.inside.linked.now.netlist c.args.net).text c.in-Some.place c.get-section.result refl
    (subst (λ (i : Inputs). slice_get (net_names i.sections) c.in-Some.place ≡ Some (net_at i.netlist c.args.net).text) (sym c.self.view_is) c.in-Some.ensures.found)
    c.get-section.ensures.net)

pub returns-in-None-clause-work : goal.returns-in-None-clause-work
returns-in-None-clause-work g c =
    no_work c.args.self.now c.args.net c.args.driver (no_section (net_at c.args.self.now.netlist c.args.net).text) c.args.steps.now
    (unwritten_net c.args.self.now c.args.net c.args.driver c.requires.wired c.in-None.ensures.absent)
