use Rattle.spef_nets.specs.RefsOf.{refs_of}
use Rattle.std.proofs.Common.{refl}
use Rattle.spef_nets.proofs.RefLemmas.{marked_at}
use Rattle.spef_nets.proofs.referred.Referred.list.Goals as goal

pub returns : goal.returns
returns c = record {
  place = c.index.result.now;
  mark = c.index-mark.result.now;
  marked = marked_at (refs_of c.args.self.now) c.args.spelling c.index.result.now c.index-mark.result.now c.requires.within c.requires.placed c.index.ensures c.index-mark.ensures;
  listed = refl;
  is = refl;
}
