use Rattle.std.proofs.Common.{List, subst}
use Rattle.netlist_link.specs.FlatBits.{NetBit}
use Rattle.netlist_link.specs.FlatBitTables.{IsKept}
use Rattle.netlist_link.specs.FlatPins.{wired}
use Rattle.netlist_link.specs.PathTables.{top_of}
use Rattle.netlist_link.specs.BitTables.{path_of}
use Rattle.netlist_link.proofs.KeepingBits.{all_kept, all_nets, kept_numbered}
use Rattle.netlist_link.proofs.flat_bits.FlatBits.net.Goals as goal

pub kept-requires : goal.kept-requires
kept-requires c =
    let has = c.requires.within in
    record {
      within = record {
        design = has.design;
        has = all_kept has.design c.args.visit c.args.self.now has.visit_below has.are;
        module_is = has.module_is;
        inside = has.inside;
      };
    }

pub returns : goal.returns
returns c = record {
  on = λ d are below module_is inside.
      let target = wired d.modules.now (top_of d.walk.now) (path_of d c.args.visit) c.args.bit in
      kept_numbered d.modules.now (top_of d.walk.now) target c.kept.result
      (subst (λ (kept : List NetBit). IsKept kept target c.kept.result) (all_nets d c.args.visit c.args.self.now below are)
      (c.kept.ensures.on d (all_kept d c.args.visit c.args.self.now below are) module_is inside));
}
