use Rattle.std.proofs.Common.{refl}
use Rattle.netlist_link.specs.FlatNetlist.{net_at}
use Rattle.net_parasitics.proofs.MissingNets.{missing_by}
use Rattle.net_parasitics.proofs.inputs.NetInputs.is_missing.Goals as goal

-- src/nets.rt
pub returns-in-Some : goal.returns-in-Some
returns-in-Some g c =
    missing_by c.args.self.now c.args.net c.in-Some.field-0 (net_at c.args.self.now.netlist c.args.net).text c.section_of.result c.is_none.result c.in-Some.ensures.wired refl
    c.section_of.ensures.found c.section_of.ensures.absent c.is_none.ensures
