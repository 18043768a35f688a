-- One value more.
use Rattle.std.proofs.Common.{◌<◌, length, get_or, map, sym, ap, arith, min}
use Rattle.std.proofs.lemmas.List.{get_or-map, length-map}
use Rattle.hierarchy.specs.Passes.{value_at, cap}
use Rattle.hierarchy.proofs.Passing.{cut_more}
use Rattle.hierarchy.proofs.passes.total_of.Goals as goal

pub loop-m-preserved : goal.loop-m-preserved
loop-m-preserved c =
    let values = c.args.values.now in
    let row = c.args.row.now in
    let numbers = map (value_at values) row in
    let i = c.loop-m.m-index in
    let at = get_or-map (value_at values) row i 0 0 c.loop-m-test.true in
    let lt : i < length numbers = omega (arith, length-map row (value_at values), c.loop-m-test.true) in
    let step = cut_more (λ x. x) c.args.own c.loop-m.total numbers i (value_at values (get_or row i 0)) 0 lt c.loop-m.invariant
    (ap (min cap) (sym at)) in
    omega (arith, step, c.min-total.ensures)
