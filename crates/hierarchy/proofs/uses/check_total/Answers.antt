-- The total of the top against the limit.
use Rattle.std.proofs.Common.{refl, arith}
use Rattle.hierarchy.proofs.Limiting.{total_cut, read_value, limit_few}
use Rattle.hierarchy.proofs.uses.check_total.Goals as goal

pub returns-then-index-limit-clause-refused : goal.returns-then-index-limit-clause-refused
returns-then-index-limit-clause-refused c =
    let modules = c.args.modules.now in
    let lowers = c.args.lowers.now in
    let passed = c.in_ok-totals.ensures in
    let at = read_value modules c.args.top c.requires.within lowers c.requires.lowers c.args.order.now c.requires.order
    c.in_ok-totals.totals.items c.index.result.now passed.size c.index.ensures in
    let cut = total_cut modules c.args.top c.requires.within lowers c.requires.lowers c.args.order.now c.requires.order
    c.in_ok-totals.totals.items c.args.count c.requires.shallow passed in
    (refl, omega (arith, at, cut, c.limit.ensures, limit_few c.args.count))

pub returns-clause-ok : goal.returns-clause-ok
returns-clause-ok c =
    let modules = c.args.modules.now in
    let lowers = c.args.lowers.now in
    let passed = c.in_ok-totals.ensures in
    let at = read_value modules c.args.top c.requires.within lowers c.requires.lowers c.args.order.now c.requires.order
    c.in_ok-totals.totals.items c.index.result.now passed.size c.index.ensures in
    let cut = total_cut modules c.args.top c.requires.within lowers c.requires.lowers c.args.order.now c.requires.order
    c.in_ok-totals.totals.items c.args.count c.requires.shallow passed in
    omega (arith, at, cut, c.limit.ensures, limit_few c.args.count)
