-- One value more.
use Rattle.std.proofs.Common.{◌+◌, map, sym, subst}
use Rattle.std.proofs.lemmas.List.{get_or-map}
use Rattle.hierarchy.specs.Passes.{value_at, IsMost}
use Rattle.hierarchy.proofs.Passing.{most_more}
use Rattle.hierarchy.proofs.passes.most_of.Goals as goal

pub loop-m-preserved : goal.loop-m-preserved
loop-m-preserved c =
    let numbers = map (value_at c.args.values.now) c.args.row.now in
    let i = c.loop-m.m-index in
    let at = get_or-map (value_at c.args.values.now) c.args.row.now i 0 0 c.loop-m-test.true in
    subst (IsMost numbers (i + 1)) (sym c.max-most.ensures) (most_more numbers i c.loop-m.most _ c.loop-m.invariant at)
