-- One module more.
use Rattle.std.proofs.Common.{◌≤◌, get_or, refl, arith}
use Rattle.std.proofs.lemmas.List.Elements.{All-set}
use Rattle.hierarchy.specs.Passes.{IsTotal, cap}
use Rattle.hierarchy.proofs.Passing.{pass_more, total_rule}
use Rattle.hierarchy.proofs.passes.totals_of.Goals as goal

pub loop-m-preserved : goal.loop-m-preserved
loop-m-preserved c =
    let modules = c.args.modules.now in
    let count = c.args.count in
    let m = get_or c.args.order.now c.loop-m.m-index 0 in
    let rule = total_rule modules count c.args.lowers.now c.loop-m.totals.items c.deref.result.now c.at.result.now m c.own_count-own.result
    c.total_of-total.result c.own_count-own.ensures c.deref.ensures.value c.at.ensures c.total_of-total.ensures in
    record {
      passed = pass_more c.args.lowers.now c.args.order.now (IsTotal modules count) c.loop-m.totals.items c.loop-m.m-index m c.total_of-total.result
          c.requires.sorted c.loop-m-test.true refl c.loop-m.invariant.passed rule;
      few = All-set (λ t. t ≤ cap) c.loop-m.totals.items m c.total_of-total.result (omega (arith, rule)) c.loop-m.invariant.few;
    }
